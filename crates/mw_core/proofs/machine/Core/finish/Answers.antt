use Rattle.std.proofs.Common.{◌≡◌, Err, ap, refl, subst}
use Rattle.mw_model.specs.Machine.{Machine}
use Rattle.mw_model.specs.Stands.{CoreView, StandsFor}
use Rattle.mw_core_ledger.specs.mw_core_laws.TaskEvents.{IsOpen, IsResult}
use Rattle.mw_core_ledger.specs.Books.{seen_of}
use Rattle.mw_core.specs.TaskAnswers.{AnswersFinish}
use Rattle.mw_core.proofs.FinishLemmas.{found-at, tested-true, taken-finishes}
use Rattle.mw_core.proofs.machine.Core.finish.Goals as goal

pub returns-in-Ok-clause-task : goal.returns-in-Ok-clause-task
returns-in-Ok-clause-task c =
    let b = c.self.inside.ledger in
    let new = c.take_result.new.ledger in
    let d = c.args.done in
    let told = c.take_result.ensures.taken in
    let Taken : CoreView → Type 0 = λ x. (m : Machine) → StandsFor x m → AnswersFinish x m d c.take_result.result (seen_of new) in
    subst Taken c.self.view_is (λ m s. taken-finishes b new m d c.take_result.result s c.sound.ensures told (tested-true b m d s c.sound.ensures c.in-Ok.ensures.ok))

pub returns-clause-task : goal.returns-clause-task
returns-clause-task c =
    let b = c.self.inside.ledger in
    let d = c.args.done in
    let is = ap Err c.in-Err-Stranger.field-0-is in
    let odd = c.in-Err-Stranger.ensures in
    let Odd : CoreView → Type 0 = λ x. (m : Machine) → StandsFor x m → IsOpen x d.task.ticket × (IsResult x m d → ⊥) × (x ≡ x) in
    subst Odd c.self.view_is (λ m s. (odd.open is, λ r. odd.stranger is (found-at b m d s c.sound.ensures r), refl))
