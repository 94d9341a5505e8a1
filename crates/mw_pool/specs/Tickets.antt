-- The entry of a name.
use Rattle.std.specs.Prelude.{◌≡◌, ℕ, Some}
use Rattle.mw_model.specs.declared.names.Name.{Name}
use Rattle.mw_model.specs.declared.calls.Outcome.TheVariants as outcome
use Rattle.mw_model.specs.Refusals.{Table, ticket_of, outcome_at}

-- the name has an entry, and its value is still to come
abbrev pub IsAwaited : Table → Name → Type 0
IsAwaited w n = (t : ℕ) × (ticket_of w.names n ≡ Some t) × (outcome_at w.outcomes t ≡ outcome.Pending)
