-- Whether who waits for a name waits on.
use Rattle.std.proofs.Common.{◌≡◌, ℕ, ◌<◌, Bool, true, length, Option, Some, None, sym, ap, ◌∙◌}
use Rattle.std.proofs.lemmas.Option.{none-some, same_Some}
use Rattle.std.specs.Prelude.{IsSome, IsTrue, ◌↔◌, is_some}
use Rattle.mw_model.specs.declared.names.Name.{Name}
use Rattle.mw_model.specs.Refusals.{Table, ticket_of, outcome_at, is_pending}
use Rattle.mw_model.specs.Machine.{Machine}
use Rattle.mw_model.specs.Stands.{CoreView, StandsFor}
use Rattle.mw_pool_passes.proofs.mw_model_laws.RunCascade.{pending_is}
use Rattle.mw_pool_passes.proofs.mw_model_laws.RunTables.{ticket_within}
use Rattle.mw_pool.specs.Tickets.{IsAwaited}

-- what the core's table tells of a name, that of the machine does
pub ticket-stands : (c : CoreView) (m : Machine) (x : Name) (o : Option ℕ) → StandsFor c m → o ≡ ticket_of c.table.names x → ticket_of m.table.names x ≡ o
ticket-stands c m x o s is = ap (λ (w : Table). ticket_of w.names x) (sym s.table) ∙ sym is

-- a name without a ticket is not awaited
pub unknown-not_awaited : (m : Machine) (x : Name) → ticket_of m.table.names x ≡ None → IsAwaited m.table x → ⊥
unknown-not_awaited m x unknown w = none-some w.0 (sym unknown ∙ w.1)

-- a name is awaited exactly where some of its tasks are left
pub awaited-iff : (m : Machine) (x : Name) (t : ℕ) (left : Option ℕ) (b : Bool) → ticket_of m.table.names x ≡ Some t
    → (IsSome left ↔ ((t < length m.table.names) × (is_pending (outcome_at m.table.outcomes t) ≡ true))) → b ≡ is_some left
    → (IsTrue b → IsAwaited m.table x) × (IsAwaited m.table x → IsTrue b)
awaited-iff m x t left b found pending is = (
  λ e. (t, found, pending_is (outcome_at m.table.outcomes t) (pending.0 (sym is ∙ e)).1),
  λ w.
      let same : w.0 ≡ t = same_Some w.0 t (sym w.1 ∙ found) in
      is ∙ pending.1 (ticket_within m.table x t found, ap (λ u. is_pending (outcome_at m.table.outcomes u)) (sym same) ∙ ap is_pending w.2),
)
