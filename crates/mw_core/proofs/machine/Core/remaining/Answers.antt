use Rattle.std.proofs.Common.{◌≡◌, ◌<◌, ◌↔◌, ℕ, true, length, Option, IsSome, sym, subst}
use Rattle.mw_model.specs.Machine.{Machine}
use Rattle.mw_model.specs.Refusals.{is_pending, outcome_at}
use Rattle.mw_model.specs.Stands.{CoreView, StandsFor}
use Rattle.mw_core_ledger.proofs.mw_core_laws.TaskLemmas.{remaining-pending}
use Rattle.mw_core_ledger.specs.Books.{seen_of}
use Rattle.mw_core.proofs.TaskLemmas.{complete-seen}
use Rattle.mw_core.proofs.machine.Core.remaining.Goals as goal

pub returns-clause-pending : goal.returns-clause-pending
returns-clause-pending c =
    let b = c.self.inside.ledger in
    let t = c.args.t in
    let told = c.remaining.ensures in
    let Told : Option ℕ → Machine → Type 0 = λ r m. IsSome r ↔ ((t < length m.table.names) × (is_pending (outcome_at m.table.outcomes t) ≡ true)) in
    let Pending : CoreView → Type 0 = λ x. (m : Machine) → StandsFor x m → Told c.remaining.result m in
    subst Pending c.self.view_is (λ m s. subst (λ (r : Option ℕ). Told r m) (sym told.value) (remaining-pending (seen_of b) m t s (complete-seen b c.sound.ensures)))
