use Rattle.std.proofs.Common.{◌≡◌, Err, ap, refl, subst}
use Rattle.mw_model.specs.Machine.{Machine}
use Rattle.mw_model.specs.Stands.{CoreView, StandsFor}
use Rattle.mw_core_ledger.specs.mw_core_laws.TaskEvents.{IsOpen, IsResult}
use Rattle.mw_core_ledger.specs.Books.{seen_of}
use Rattle.mw_core.specs.TaskAnswers.{AnswersFinish, IsOwn}
use Rattle.mw_core.proofs.FinishLemmas.{found-at, own-true, taken-finishes}
use Rattle.mw_core.proofs.machine.Core.finish_own.Goals as goal

pub returns-in-Ok-clause-task : goal.returns-in-Ok-clause-task
returns-in-Ok-clause-task c =
    let b = c.self.inside.ledger in
    let new = c.take_result.new.ledger in
    let d = c.args.done in
    let told = c.take_result.ensures.taken in
    let Taken : CoreView → Type 0 = λ x. (m : Machine) → StandsFor x m → IsOwn x m d → AnswersFinish x m d c.take_result.result (seen_of new) in
    subst Taken c.self.view_is (λ m s own. taken-finishes b new m d c.take_result.result s c.sound.ensures told (own-true b m d own))

pub returns-clause-task : goal.returns-clause-task
returns-clause-task c =
    let b = c.self.inside.ledger in
    let d = c.args.done in
    let is = ap Err c.in-Err-Stranger.field-0-is in
    let odd = c.in-Err-Stranger.ensures in
    let Odd : CoreView → Type 0 = λ x. (m : Machine) → StandsFor x m → IsOwn x m d → IsOpen x d.task.ticket × (IsResult x m d → ⊥) × (x ≡ x) in
    subst Odd c.self.view_is (λ m s own. (odd.open is, λ r. odd.stranger is (found-at b m d s c.sound.ensures r), refl))
