-- What it is that a task is started, is finished, or is refused (own).
use Rattle.std.specs.Prelude.{ℕ, ◌≡◌, ◌<◌, ◌≤◌, ◌+◌, ◌++◌, ◌∷◌, [], ◌⊎◌, true, false, length, slice_set, Some}
use Rattle.mw_model.specs.declared.calls.Outcome.TheVariants as outcome
use Rattle.mw_model.specs.declared.calls.LogItem.TheVariants as item
use Rattle.mw_model.specs.declared.tasks.TaskId.{TaskId}
use Rattle.mw_model.specs.Refusals.{outcome_at, is_pending}
use Rattle.mw_model.specs.Machine.{Machine, CanFinish, CanDie, with_table, killed, settled}
use Rattle.mw_model.specs.Tasks.{Progress, task_count, is_running, step_number, tile_number, remaining_tasks}
use Rattle.mw_model.specs.Stands.{CoreView, StandsFor, progress_at, is_ready_at}
use Rattle.mw_store.specs.mw_step_task.WindowTasks.{WindowTask}
use Rattle.mw_core_laws.specs.Works.{true_task}
use Rattle.mw_core_laws.specs.Events.{WorkStays}

-- The ticket is killed for want of memory: this is a step of the machine, and the log tells it.
pub record Kills (old : CoreView) (m : Machine) (t : ℕ) (new : CoreView) : Type 0 where
  pub can : CanDie m.table t
  pub stands : StandsFor new (with_table m (killed m.table t outcome.Memory))
  pub log : new.log ≡ old.log ++ item.Killed t ∷ []
  pub work : WorkStays old new

-- ---- start

-- The task is ready, it is the true task of its numbers, and it is running from then on; nothing else changes.
pub record BeginsTask (old : CoreView) (m : Machine) (w : WindowTask) (new : CoreView) : Type 0 where
  pub progress : Progress
  pub number : ℕ
  pub within : w.task.ticket < length old.table.names
  pub work : progress_at old.work w.task.ticket ≡ Some progress
  pub ready : is_ready_at old w.task.ticket number ≡ true
  pub task : w ≡ true_task m w.task.ticket progress number
  pub started : new ≡ record old { work = slice_set old.work w.task.ticket (Some (record progress { started = slice_set progress.started number true })) }
  pub stands : StandsFor new m

-- ---- finish

-- The result is that of a running task: it bears the task's numbers, and was made from its tile, its step and its windows.
pub record IsResult (c : CoreView) (m : Machine) (d : WindowTask) : Type 0 where
  pub progress : Progress
  pub number : ℕ
  pub work : progress_at c.work d.task.ticket ≡ Some progress
  pub within : number < task_count progress
  pub running : is_running progress number ≡ true
  pub task : d ≡ true_task m d.task.ticket progress number

-- The ticket settles: this was its last task.
pub record Settles (old : CoreView) (m : Machine) (d : WindowTask) (t : ℕ) (new : CoreView) : Type 0 where
  pub ticket : t ≡ d.task.ticket
  pub result : IsResult old m d
  pub last : remaining_tasks result.progress ≡ 1
  pub can : CanFinish m.table t
  pub stands : StandsFor new (with_table m (settled m.table t outcome.Done))
  pub log : new.log ≡ old.log ++ item.Finished t ∷ []
  pub work : WorkStays old new

-- The task is finished, and others of its ticket are not: nothing else changes that the machine knows.
pub record Places (old : CoreView) (m : Machine) (d : WindowTask) (new : CoreView) : Type 0 where
  pub result : IsResult old m d
  pub left : 2 ≤ remaining_tasks result.progress
  pub after : Progress
  pub lowered : remaining_tasks after + 1 ≡ remaining_tasks result.progress
  pub work : new.work ≡ slice_set old.work d.task.ticket (Some after)
  pub finished : after.finished ≡ slice_set result.progress.finished result.number true
  pub started : after.started ≡ result.progress.started
  pub plan : after.plan ≡ result.progress.plan
  pub tiles : after.tiles ≡ result.progress.tiles
  pub width : after.width ≡ result.progress.width
  pub height : after.height ≡ result.progress.height
  pub log : new.log ≡ old.log
  pub stands : StandsFor new m

-- the ticket is none, or it is pending: for a task that is not running
abbrev pub IsOpen : CoreView → ℕ → Type 0
IsOpen c t = (length c.table.names ≤ t) ⊎ (is_pending (outcome_at c.table.outcomes t) ≡ true)

-- the ticket is there and settled
pub record IsSettled (c : CoreView) (t : ℕ) : Type 0 where
  pub within : t < length c.table.names
  pub settled : is_pending (outcome_at c.table.outcomes t) ≡ false

-- ---- refuse

-- the task of these numbers is running
pub record IsUnderway (c : CoreView) (k : TaskId) : Type 0 where
  pub progress : Progress
  pub number : ℕ
  pub work : progress_at c.work k.ticket ≡ Some progress
  pub within : number < task_count progress
  pub running : is_running progress number ≡ true
  pub step : k.step ≡ step_number progress number
  pub tile : k.tile ≡ tile_number progress number
