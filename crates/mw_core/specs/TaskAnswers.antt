-- What START, a finished task and a refused task are answered, and do (own).
use Rattle.std.specs.Prelude.{ℕ, ◌≡◌, ◌<◌, ◌≤◌, ◌%◌, length}
use Rattle.std.specs.List.{AllByRecursion}
use Rattle.mw_model.specs.declared.tasks.TaskId.{TaskId}
use Rattle.mw_model.specs.Machine.{Machine}
use Rattle.mw_model.specs.Stands.{CoreView, ready_under, ready_count}
use Rattle.mw_core_refusals.specs.mw_step_task.WindowTasks.{IsBounded, WindowTask}
use Rattle.mw_core_ledger.specs.mw_core_laws.TaskEvents.{BeginsTask, Kills, Places, Settles, IsResult, IsOpen, IsSettled, IsUnderway}
use Rattle.mw_core_ledger.specs.mw_core_laws.Turns.{IsAt}
use Rattle.mw_core_ledger.specs.Books.{Book}
use Rattle.mw_core_ledger.specs.Tasks.{PlacesAt, SettlesAt}
use Rattle.mw_core.specs.declared.answers.Started.{Started}
use Rattle.mw_core.specs.declared.answers.Started.TheVariants as started
use Rattle.mw_core.specs.declared.answers.Finish.{Finish}
use Rattle.mw_core.specs.declared.answers.Finish.TheVariants as finish
use Rattle.mw_core.specs.declared.answers.Refusal.{Refusal}
use Rattle.mw_core.specs.declared.answers.Refusal.TheVariants as refusal

-- work for a ready task; or the death of a ticket that has one; or nothing, where no task is ready
abbrev pub Starts : CoreView → Machine → Started → CoreView → Type 0
Starts old m (started.Work w) new = BeginsTask old m w new
Starts old m (started.Refused t) new = (1 ≤ ready_under old t) × Kills old m t new
Starts old m started.Idle new = (ready_count old ≡ 0) × (new ≡ old)

-- the task is the one of the place, counted round again where there are fewer
abbrev pub Picks : CoreView → ℕ → Started → Type 0
Picks c place (started.Work w) = IsAt c (place % ready_count c) w.task.ticket
Picks c place (started.Refused t) = IsAt c (place % ready_count c) t
Picks c place started.Idle = Unit {0}

-- no sample of the windows of a task that is handed out is over the maxval of its source
abbrev pub StartsBounded : Started → Type 0
StartsBounded (started.Work w) = AllByRecursion IsBounded w.windows
StartsBounded s = Unit {0}

-- If the task of its numbers is running, the result is that of it: so of every answer to a task that was taken from the core.
abbrev pub IsOwn : CoreView → Machine → WindowTask → Type 0
IsOwn c m d = d.task.ticket < length c.table.names → IsUnderway c d.task → IsResult c m d

-- the ledger has taken the result, and it was the last of its ticket or not
abbrev pub TakenAt : Book → WindowTask → Finish → Book → Type 0
TakenAt old d finish.Placed new = PlacesAt old d new
TakenAt old d (finish.Settled t) new = (t ≡ d.task.ticket) × SettlesAt old d new
TakenAt old d f new = ⊥

-- the result is taken, and is the last of its ticket or not; or it is late, or a stranger's
abbrev pub AnswersFinish : CoreView → Machine → WindowTask → Finish → CoreView → Type 0
AnswersFinish old m d finish.Placed new = Places old m d new
AnswersFinish old m d (finish.Settled t) new = Settles old m d t new
AnswersFinish old m d finish.Late new = IsSettled old d.task.ticket × (new ≡ old)
AnswersFinish old m d finish.Stranger new = IsOpen old d.task.ticket × (IsResult old m d → ⊥) × (new ≡ old)

-- the ticket of the running task is killed; or the refusal is late, or a stranger's
abbrev pub AnswersRefusal : CoreView → Machine → TaskId → Refusal → CoreView → Type 0
AnswersRefusal old m k (refusal.Killed t) new = (t ≡ k.ticket) × IsUnderway old k × Kills old m t new
AnswersRefusal old m k refusal.Late new = IsSettled old k.ticket × (new ≡ old)
AnswersRefusal old m k refusal.Stranger new = IsOpen old k.ticket × (IsUnderway old k → ⊥) × (new ≡ old)
