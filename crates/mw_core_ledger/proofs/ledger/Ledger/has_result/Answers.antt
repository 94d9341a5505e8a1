use Rattle.std.proofs.Common.{◌≡◌, ◌∙◌, ◌<◌, IsTrue, length, sym, ap, subst, arith}
use Rattle.mw_model.specs.declared.calls.Outcome.TheVariants as outcome
use Rattle.mw_model.specs.declared.submissions.Submission.{Submission}
use Rattle.mw_model.specs.declared.tasks.TaskId.{TaskId}
use Rattle.mw_model.specs.Refusals.{outcome_at}
use Rattle.mw_core_ledger.specs.Books.{Book, room_in}
use Rattle.mw_core_ledger.specs.Tasks.{IsFoundAt, IsResultAt}
use Rattle.mw_core_ledger.proofs.WorkLemmas.{found, found-of, result-there}
use Rattle.mw_core_ledger.proofs.ledger.Ledger.has_result.Goals as goal

pub returns-in-Some-index-clause-all : goal.returns-in-Some-index-clause-all
returns-in-Some-index-clause-all c =
    let b = c.self.inside in
    let book : Book = record { table = b.store.table; kept = b.store.kept; in_progress = b.in_progress.items; log = b.log.items; side = b.side; room = room_in b.log.cap b.log.len b.store.table.outcomes } in
    let d = c.args.done.now in
    let k = c.task-t.result in
    let u = c.in-Some-index.progress in
    let names = ap (λ (v : Book). length v.table.names) c.self.view_is in
    let ticket = ap (λ (i : TaskId). i.ticket) c.task-t.ensures in
    let within : k.ticket < length b.in_progress.items = omega (arith, ticket, c.requires.within, names, c.self.invariant.1.in_progress) in
    let there = found b.in_progress.items k.ticket c.index.result.now u within c.index.ensures c.in-Some-index.is in
    let first = ap (λ (s : Submission). s.inputs.a) (sym c.submission.ensures.value) ∙ c.in-Some.is in
    let P : Book → Type 0 = λ v. IsFoundAt v d → IsTrue c.is_result.result in
    subst P c.self.view_is (λ f. c.is_result.ensures.all (found-of book d k c.in-Some.image u c.task-t.ensures there first c.remaining-whole.ensures.whole f))

pub returns-in-Some-index-clause-result : goal.returns-in-Some-index-clause-result
returns-in-Some-index-clause-result c = λ holds.
    let b = c.self.inside in
    let book : Book = record { table = b.store.table; kept = b.store.kept; in_progress = b.in_progress.items; log = b.log.items; side = b.side; room = room_in b.log.cap b.log.len b.store.table.outcomes } in
    let d = c.args.done.now in
    let k = c.task-t.result in
    let u = c.in-Some-index.progress in
    let names = ap (λ (v : Book). length v.table.names) c.self.view_is in
    let ticket = ap (λ (i : TaskId). i.ticket) c.task-t.ensures in
    let within : k.ticket < length b.in_progress.items = omega (arith, ticket, c.requires.within, names, c.self.invariant.1.in_progress) in
    let there = found b.in_progress.items k.ticket c.index.result.now u within c.index.ensures c.in-Some-index.is in
    let first = ap (λ (s : Submission). s.inputs.a) (sym c.submission.ensures.value) ∙ c.in-Some.is in
    let Pending : Book → Type 0 = λ v. outcome_at v.table.outcomes d.task.ticket ≡ outcome.Pending in
    let pending = subst Pending (sym c.self.view_is) c.requires.pending in
    let known : d.task.ticket < length b.store.table.names = omega (arith, c.requires.within, names) in
    let P : Book → Type 0 = λ v. IsResultAt v d in
    subst P c.self.view_is (result-there book d k c.in-Some.image u c.task-t.ensures known pending there first c.remaining-whole.ensures.whole (c.is_result.ensures.result holds))
