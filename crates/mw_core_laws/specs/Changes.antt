-- How an event changes what the core shows.
use Rattle.std.specs.Prelude.{ℕ, ◌≡◌, List, if◌then◌else◌, Option, None}
use Rattle.mw_model.specs.Refusals.{Table, outcome_at, is_pending}
use Rattle.mw_model.specs.Tasks.{Progress}
use Rattle.mw_model.specs.Stands.{progress_at}

-- the work under each ticket that is pending stays, and no other has any
abbrev pub KeepsWork : Table → List (Option Progress) → List (Option Progress) → Type 0
KeepsWork w old new = (t : ℕ) → progress_at new t ≡ (if is_pending (outcome_at w.outcomes t) then progress_at old t else None)
