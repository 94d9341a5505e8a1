-- What an event does: to the machine, the log and the work of the tickets that go on pending (own).
use Rattle.std.specs.Prelude.{ℕ, ◌≡◌, ◌<◌, ◌≤◌, ◌++◌, ◌∷◌, [], true, length, Option, Some, None}
use Rattle.mw_model.specs.declared.limits.TheConstants.{TASK_LIMIT}
use Rattle.mw_model.specs.declared.calls.Call.{Call}
use Rattle.mw_model.specs.declared.calls.Reply.{Reply}
use Rattle.mw_model.specs.declared.calls.Reply.TheVariants as reply
use Rattle.mw_model.specs.declared.calls.LogItem.TheVariants as item
use Rattle.mw_model.specs.Values.{Value, value_at}
use Rattle.mw_model.specs.Refusals.{outcome_at, is_pending}
use Rattle.mw_model.specs.Machine.{Machine, values, reply_to, after}
use Rattle.mw_model.specs.Tasks.{Progress, task_count, running_tasks, remaining_tasks}
use Rattle.mw_model.specs.Stands.{CoreView, StandsFor, progress_at}

-- the plan, the running and the finished tasks of each ticket that goes on pending stay
abbrev pub WorkStays : CoreView → CoreView → Type 0
WorkStays old new =
    (t : ℕ) → t < length old.table.names → is_pending (outcome_at new.table.outcomes t) ≡ true → progress_at new.work t ≡ progress_at old.work t

-- A session call that comes with this payload is answered so: for each machine that the core stands for the reply is the machine's, and the core then stands for the machine after the call.
pub record FollowsMachine (old : CoreView) (c : Call) (payload : Option Value) (new : CoreView) (r : Reply) : Type 0 where
  pub reply : (m : Machine) → StandsFor old m → r ≡ reply_to m c
  pub stands : (m : Machine) → StandsFor old m → StandsFor new (after m c payload)
  pub log : new.log ≡ old.log ++ item.Call c r ∷ []
  pub work : WorkStays old new

-- no task of the ticket was started, and there are from 1 to 4,194,304
pub record IsFresh (c : CoreView) (t : ℕ) : Type 0 where
  pub progress : Progress
  pub work : progress_at c.work t ≡ Some progress
  pub some : 1 ≤ remaining_tasks progress
  pub bounded : remaining_tasks progress ≤ TASK_LIMIT
  pub unfinished : remaining_tasks progress ≡ task_count progress
  pub idle : running_tasks progress ≡ 0

-- what a FETCH with this reply hands out
abbrev pub handed_out : Machine → Reply → Option Value
handed_out m (reply.Shown t) = value_at (values m) t
handed_out m r = None
