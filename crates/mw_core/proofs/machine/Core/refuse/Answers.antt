use Rattle.std.proofs.Common.{◌≡◌, ◌<◌, length, ap, subst}
use Rattle.mw_model.specs.declared.tasks.TaskId.{TaskId}
use Rattle.mw_model.specs.declared.calls.Outcome.TheVariants as outcome
use Rattle.mw_model.specs.Refusals.{outcome_at}
use Rattle.mw_model.specs.Stands.{CoreView}
use Rattle.mw_core_ledger.specs.mw_core_laws.TaskEvents.{IsUnderway}
use Rattle.mw_core_ledger.proofs.mw_core_laws.TaskLemmas.{kills}
use Rattle.mw_core_ledger.specs.Books.{seen_of}
use Rattle.mw_core.proofs.machine.Core.refuse.Goals as goal

pub returns-in-Ok-clause-task : goal.returns-in-Ok-clause-task
returns-in-Ok-clause-task c = λ m s.
    let old = c.args.self.now in
    let k = c.task-task.result in
    let fits = c.in-Ok.ensures in
    let e = c.end.ensures in
    let Meant : TaskId → Type 0 = λ x. IsUnderway (seen_of c.self.inside.ledger) x in
    let Shown : CoreView → Type 0 = λ x. IsUnderway x c.args.refused.task in
    let Named : CoreView → Type 0 = λ x. k.ticket < length x.table.names in
    let Pends : CoreView → Type 0 = λ x. outcome_at x.table.outcomes k.ticket ≡ outcome.Pending in (
      ap (λ (x : TaskId). x.ticket) c.task-task.ensures,
      subst Shown c.self.view_is (subst Meant c.task-task.ensures fits.ok),
      kills old c.end.new.self m k.ticket s c.whole.ensures.complete (subst Named c.self.view_is fits.within) (subst Pends c.self.view_is fits.pending) e.table e.kept e.work e.log,
    )
