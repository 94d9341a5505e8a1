-- Counts of tasks, ticket by ticket, and tickets for which there are none.
use Rattle.std.specs.Prelude.{◌≢◌, ℕ, ◌<◌, length}
use Rattle.std.specs.Option.{option_map_or}
use Rattle.mw_model.specs.declared.calls.Outcome.TheVariants as outcome
use Rattle.mw_model.specs.Refusals.{Table, outcome_at}
use Rattle.mw_model.specs.Tasks.{running_tasks}
use Rattle.mw_model.specs.Stands.{CoreView, progress_at}

-- how many tasks of the ticket are running
abbrev pub running_under : CoreView → ℕ → ℕ
running_under c t = option_map_or running_tasks (progress_at c.work t) 0

-- all work is done
abbrev pub NonePending : Table → Type 0
NonePending w = (t : ℕ) → t < length w.names → outcome_at w.outcomes t ≢ outcome.Pending
