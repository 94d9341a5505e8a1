-- A wave of tasks: what is known of a core while several are running (own).
use Rattle.std.specs.Prelude.{ℕ, ◌≡◌, ◌+◌, ◌≤◌, ◌<◌, ◌++◌, ◌∷◌, ◌⊎◌, true, List, length, Result, Ok, Err, Some}
use Rattle.std.specs.List.{AllByRecursion}
use Rattle.mw_model.specs.declared.calls.LogItem.{LogItem}
use Rattle.mw_model.specs.Machine.{Machine, Run}
use Rattle.mw_model.specs.Tasks.{Progress, task_count, is_running}
use Rattle.mw_model.specs.Stands.{CoreView, StandsFor, progress_at, ready_count, running_count}
use Rattle.mw_step.specs.mw_step_task.WindowTasks.{WindowTask}
use Rattle.mw_step.specs.mw_step_task.declared.done.TaskRefused.{TaskRefused}
use Rattle.mw_core.specs.mw_core_laws.Works.{true_task}
use Rattle.mw_core.specs.declared.answers.Started.{Started}
use Rattle.mw_core.specs.declared.answers.Started.TheVariants as started
use Rattle.mw_session_laws.specs.Marks.{OnlyWork}
use Rattle.mw_core_waves.specs.Work.{tasks_left}
use Rattle.mw_core_waves.specs.declared.job.WaveTask.{WaveTask}
use Rattle.mw_core_waves.specs.declared.job.WaveTask.TheVariants as job
use Rattle.mw_core_waves.specs.Jobs.{HasTask}

-- n tasks fewer are left, or n are running
abbrev pub GoneOn : CoreView → CoreView → ℕ → Type 0
GoneOn old new n = (tasks_left new + n ≤ tasks_left old) ⊎ ((tasks_left new ≤ tasks_left old) × (n ≤ running_count new))

-- task k of ticket t is running
pub record Runs (c : CoreView) (t k : ℕ) (p : Progress) : Type 0 where
  pub within : t < length c.table.names
  pub work : progress_at c.work t ≡ Some p
  pub number : k < task_count p
  pub runs : is_running p k ≡ true

-- the task is the true one of its numbers, where there is work under its ticket
abbrev pub IsTrueTask : CoreView → Machine → WindowTask → Type 0
IsTrueTask c m w =
    (t k : ℕ) (p : Progress) → t < length c.table.names → progress_at c.work t ≡ Some p → (true_task m t p k).task ≡ w.task → w ≡ true_task m t p k

-- so is the task that is done
abbrev pub IsTrueAnswer : CoreView → Machine → Result WindowTask TaskRefused → Type 0
IsTrueAnswer c m (Ok d) = IsTrueTask c m d
IsTrueAnswer c m (Err r) = Unit {0}

-- so is the task of the place
abbrev pub IsTrueJob : CoreView → Machine → WaveTask → Type 0
IsTrueJob c m (job.Waits w) = IsTrueTask c m w
IsTrueJob c m (job.Ran a) = IsTrueAnswer c m a
IsTrueJob c m job.Nothing = Unit {0}

-- The log went on by work alone, and the machine with it. Each task that is running has its place among the jobs, and the jobs are true tasks.
pub record Underway (m : Machine) (old new : CoreView) (jobs : List WaveTask) (n : ℕ) : Type 0 where
  pub items : List LogItem
  pub state : Machine
  pub log : new.log ≡ old.log ++ items
  pub side : new.side ≡ old.side
  pub only : OnlyWork items
  pub run : Run m items state
  pub stands : StandsFor new state
  pub running : (t k : ℕ) (p : Progress) → Runs new t k p → HasTask jobs (true_task state t p k)
  pub tasks : AllByRecursion (IsTrueJob new state) jobs
  pub gone : GoneOn old new n

-- one more task is running, or a ticket died; or none was ready
abbrev pub Took : Machine → CoreView → CoreView → List WaveTask → Started → CoreView → Type 0
Took m old c jobs (started.Work w) new = Underway m old new (job.Waits w ∷ jobs) 1
Took m old c jobs (started.Refused t) new = Underway m old new jobs 1
Took m old c jobs started.Idle new = (ready_count c ≡ 0) × (new ≡ c)
