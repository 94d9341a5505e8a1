use Rattle.std.proofs.Common.{◌<◌, ◌∙◌, Option, length, ap, sym, subst, arith}
use Rattle.mw_model.specs.declared.tasks.TaskId.{TaskId}
use Rattle.mw_core_tasks.specs.mw_core_progress.ProgressView.{ProgressView}
use Rattle.mw_core_ledger.specs.Books.{Book, IsOrderly, work_at, room_in}
use Rattle.mw_core_ledger.proofs.OrderLemmas.{with_work, without-orderly}
use Rattle.mw_core_ledger.proofs.SettleLemmas.{finished-orderly, finished-plane, finishes-at, fits-at, work-of}
use Rattle.mw_core_ledger.proofs.WorkLemmas.{found}
use Rattle.mw_core_ledger.proofs.ledger.Ledger.finished.Goals as goal

pub finish-requires-clause-fits : goal.finish-requires-clause-fits
finish-requires-clause-fits c =
    let b = c.self.inside in
    let old = c.args.self.now in
    let d = c.args.done in
    let k = c.task-task.result in
    let u = c.in-Some.progress in
    let r = c.requires in
    let names = ap (λ (v : Book). length v.table.names) c.self.view_is in
    let ticket = ap (λ (i : TaskId). i.ticket) c.task-task.ensures in
    let within : k.ticket < length b.in_progress.items = omega (arith, ticket, r.at.within, names, c.self.invariant.1.in_progress) in
    let there = ap (λ (v : Book). work_at v.in_progress k.ticket) (sym c.self.view_is) ∙ found b.in_progress.items k.ticket c.index_mut.result.now u within c.index_mut.ensures.value (sym c.take.ensures.value ∙ c.in-Some.is) in
    let is = work-of old d k u r c.task-task.ensures there in
    fits-at old d k u c.into_made.result r c.task-task.ensures is c.windows-windows.ensures.fits c.into_made.ensures

pub invariant_of-self : goal.invariant_of-self
invariant_of-self c =
    let b = c.self.inside in
    let book : Book = record { table = b.store.table; kept = b.store.kept; in_progress = b.in_progress.items; log = b.log.items; side = b.side; room = room_in b.log.cap b.log.len b.store.table.outcomes } in
    let t = c.task-task.result.ticket in
    let names = ap (λ (v : Book). length v.table.names) c.self.view_is in
    let ticket = ap (λ (i : TaskId). i.ticket) c.task-task.ensures in
    let within : t < length b.in_progress.items = omega (arith, ticket, c.requires.at.within, names, c.self.invariant.1.in_progress) in
    let P : Option ProgressView → Type 0 = λ o. IsOrderly (with_work book t o) in
    (c.self.invariant.0, subst P (sym c.take.ensures.after) (without-orderly book t c.self.invariant.1 within))

pub returns-clause-finishes : goal.returns-clause-finishes
returns-clause-finishes c =
    let b = c.self.inside in
    let old = c.args.self.now in
    let d = c.args.done in
    let k = c.task-task.result in
    let u = c.in-Some.progress in
    let r = c.requires in
    let names = ap (λ (v : Book). length v.table.names) c.self.view_is in
    let ticket = ap (λ (i : TaskId). i.ticket) c.task-task.ensures in
    let within : k.ticket < length b.in_progress.items = omega (arith, ticket, r.at.within, names, c.self.invariant.1.in_progress) in
    let there = ap (λ (v : Book). work_at v.in_progress k.ticket) (sym c.self.view_is) ∙ found b.in_progress.items k.ticket c.index_mut.result.now u within c.index_mut.ensures.value (sym c.take.ensures.value ∙ c.in-Some.is) in
    let is = work-of old d k u r c.task-task.ensures there in
    finishes-at old d k u c.finish.new.self c.into_made.result r c.task-task.ensures is c.into_made.ensures c.finish.ensures.finished c.finish.ensures.whole

pub returns-clause-order : goal.returns-clause-order
returns-clause-order c = λ left.
    let b = c.self.inside in
    let old = c.args.self.now in
    let d = c.args.done in
    let k = c.task-task.result in
    let u = c.in-Some.progress in
    let r = c.requires in
    let names = ap (λ (v : Book). length v.table.names) c.self.view_is in
    let ticket = ap (λ (i : TaskId). i.ticket) c.task-task.ensures in
    let within : k.ticket < length b.in_progress.items = omega (arith, ticket, r.at.within, names, c.self.invariant.1.in_progress) in
    let there = ap (λ (v : Book). work_at v.in_progress k.ticket) (sym c.self.view_is) ∙ found b.in_progress.items k.ticket c.index_mut.result.now u within c.index_mut.ensures.value (sym c.take.ensures.value ∙ c.in-Some.is) in
    let is = work-of old d k u r c.task-task.ensures there in
    let P : Book → Type 0 = λ v. IsOrderly v in
    let order = subst P c.self.view_is c.self.invariant.1 in
    finished-orderly old d c.finish.new.self order (finishes-at old d k u c.finish.new.self c.into_made.result r c.task-task.ensures is c.into_made.ensures c.finish.ensures.finished c.finish.ensures.whole) left

pub returns-clause-plane : goal.returns-clause-plane
returns-clause-plane c = λ image.
    let b = c.self.inside in
    let old = c.args.self.now in
    let d = c.args.done in
    let k = c.task-task.result in
    let u = c.in-Some.progress in
    let r = c.requires in
    let names = ap (λ (v : Book). length v.table.names) c.self.view_is in
    let ticket = ap (λ (i : TaskId). i.ticket) c.task-task.ensures in
    let within : k.ticket < length b.in_progress.items = omega (arith, ticket, r.at.within, names, c.self.invariant.1.in_progress) in
    let there = ap (λ (v : Book). work_at v.in_progress k.ticket) (sym c.self.view_is) ∙ found b.in_progress.items k.ticket c.index_mut.result.now u within c.index_mut.ensures.value (sym c.take.ensures.value ∙ c.in-Some.is) in
    let is = work-of old d k u r c.task-task.ensures there in
    let P : Book → Type 0 = λ v. IsOrderly v in
    let order = subst P c.self.view_is c.self.invariant.1 in
    finished-plane old d c.finish.new.self order (finishes-at old d k u c.finish.new.self c.into_made.result r c.task-task.ensures is c.into_made.ensures c.finish.ensures.finished c.finish.ensures.whole) image
