-- The tasks that were handed out, beside the core.
use Rattle.std.specs.Prelude.{ℕ, ◌≡◌, ◌<◌, List, length, Option, Some, IfSome, IfNone}
use Rattle.std.specs.List.{AllByRecursion}
use Rattle.mw_model.specs.Machine.{Machine}
use Rattle.mw_model.specs.Tasks.{Progress}
use Rattle.mw_model.specs.Stands.{CoreView, StandsFor, progress_at}
use Rattle.mw_pool_passes.specs.mw_step_task.WindowTasks.{WindowTask}
use Rattle.mw_pool_passes.specs.mw_core_laws.Works.{true_task}
use Rattle.mw_pool_passes.specs.mw_core.declared.answers.Started.{Started}
use Rattle.mw_pool_passes.specs.mw_core.TaskAnswers.{Starts}

-- Its ticket is there, and where there is work under it still, the task of these numbers is this one: so of each task that was handed out, from then on.
abbrev pub IsHanded : CoreView → Machine → WindowTask → Type 0
IsHanded c m d =
    (d.task.ticket < length c.table.names)
    × ((p : Progress) (k : ℕ) → progress_at c.work d.task.ticket ≡ Some p → (true_task m d.task.ticket p k).task ≡ d.task → d ≡ true_task m d.task.ticket p k)

-- so of all tasks that stand in the roll, for one state that the core stands for
abbrev pub AreHanded : CoreView → List WindowTask → Type 0
AreHanded c roll = ∥ ((m : Machine) × StandsFor c m × AllByRecursion (IsHanded c m) roll) ∥₁

-- a task was asked for as of each state that the core stands for; or none was, and the core stays
abbrev pub Follows : CoreView → Option (Started × Option (List WindowTask)) → CoreView → Type 0
Follows old next new = IfSome next (λ r. (m : Machine) → StandsFor old m → Starts old m r.0 new) × IfNone next (new ≡ old)
