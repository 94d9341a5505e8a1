use Rattle.mw_core_ledger.specs.Books.{seen_of}
use Rattle.mw_model.specs.Machine.{Machine}
use Rattle.mw_model.specs.Stands.{CoreView, StandsFor, ready_count}
use Rattle.mw_core_ledger.specs.mw_core_laws.Counts.{NonePending}
use Rattle.mw_core_ledger.proofs.mw_core_laws.IdleLemmas.{nothing-pending}
use Rattle.std.proofs.Common.{◌≡◌, subst, sym, ◌∙◌}
use Rattle.mw_core.proofs.machine.Core.running.Goals as goal

pub returns-clause-rest : goal.returns-clause-rest
returns-clause-rest c =
    let Rest : CoreView → Type 0 = λ x. (m : Machine) → StandsFor x m → c.running.result ≡ 0 → ready_count x ≡ 0 → NonePending m.table in
    subst Rest c.self.view_is (λ m s zero ready. nothing-pending (seen_of c.self.inside.ledger) m s ready (sym (c.running.ensures ∙ c.self.invariant.1) ∙ zero))
