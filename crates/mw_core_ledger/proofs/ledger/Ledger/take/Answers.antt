use Rattle.std.proofs.Common.{◌≡◌, ◌<◌, IfOk, OnErr, Some, slice_index, length, ap, sym, subst, arith, ◌∙◌}
use Rattle.mw_model.specs.declared.submissions.Submission.{Submission}
use Rattle.mw_model.specs.Stands.{ready_under}
use Rattle.mw_core_ledger.specs.Books.{Book, seen_of, room_in}
use Rattle.mw_core_ledger.specs.Tasks.{IsAtWork, TakesAt}
use Rattle.mw_core_ledger.proofs.OrderLemmas.{with_work, with-orderly}
use Rattle.mw_core_ledger.proofs.WorkLemmas.{found, ready-first, ready-there, same-at, taken-goes_on, takes-at}
use Rattle.mw_core_ledger.proofs.ledger.Ledger.take.Goals as goal

pub unreachable-requires : goal.unreachable-requires
unreachable-requires c =
    let b = c.self.inside in
    let book : Book = record { table = b.store.table; kept = b.store.kept; in_progress = b.in_progress.items; log = b.log.items; side = b.side; room = room_in b.log.cap b.log.len b.store.table.outcomes } in
    let P : Book → Type 0 = λ v. c.args.place < ready_under (seen_of v) c.args.t in
    ready-first book c.args.t c.args.place c.submission.result c.self.invariant.1 (subst P (sym c.self.view_is) c.requires.ready) c.submission.ensures.value c.in_default.is

pub begin-requires-clause-place : goal.begin-requires-clause-place
begin-requires-clause-place c =
    let b = c.self.inside in
    let book : Book = record { table = b.store.table; kept = b.store.kept; in_progress = b.in_progress.items; log = b.log.items; side = b.side; room = room_in b.log.cap b.log.len b.store.table.outcomes } in
    let P : Book → Type 0 = λ v. c.args.place < ready_under (seen_of v) c.args.t in
    let names = ap (λ (v : Book). length v.table.names) c.self.view_is in
    let u = c.in-Some-index_mut.progress in
    let there = found b.in_progress.items c.args.t c.index_mut.result.now u (omega (arith, c.requires.within, names, c.self.invariant.1.in_progress)) c.index_mut.ensures.value c.in-Some-index_mut.is in
    ready-there book c.args.t c.args.place u there (subst P (sym c.self.view_is) c.requires.ready)

pub invariant_of-self : goal.invariant_of-self
invariant_of-self c =
    let b = c.self.inside in
    let book : Book = record { table = b.store.table; kept = b.store.kept; in_progress = b.in_progress.items; log = b.log.items; side = b.side; room = room_in b.log.cap b.log.len b.store.table.outcomes } in
    let names = ap (λ (v : Book). length v.table.names) c.self.view_is in
    let u = c.in-Some-index_mut.progress in
    let order = c.self.invariant.1 in
    let within : c.args.t < length book.in_progress = omega (arith, c.requires.within, names, order.in_progress) in
    let there = found b.in_progress.items c.args.t c.index_mut.result.now u within c.index_mut.ensures.value c.in-Some-index_mut.is in
    let new = c.begin.new.progress in
    let on = taken-goes_on book c.args.t c.in-Some.image u (slice_index u.order c.args.place) new c.begin.result c.begin.ensures.taken c.begin.ensures.same in
    (c.self.invariant.0, with-orderly book c.args.t u new order within there on.0 (omega (arith, on.1, order.left c.args.t u there)))

pub returns-clause-taken : goal.returns-clause-taken
returns-clause-taken c =
    let b = c.self.inside in
    let book : Book = record { table = b.store.table; kept = b.store.kept; in_progress = b.in_progress.items; log = b.log.items; side = b.side; room = room_in b.log.cap b.log.len b.store.table.outcomes } in
    let names = ap (λ (v : Book). length v.table.names) c.self.view_is in
    let u = c.in-Some-index_mut.progress in
    let within : c.args.t < length b.store.table.names = omega (arith, c.requires.within, names) in
    let there = found b.in_progress.items c.args.t c.index_mut.result.now u (omega (arith, within, c.self.invariant.1.in_progress)) c.index_mut.ensures.value c.in-Some-index_mut.is in
    let new = c.begin.new.progress in
    let at : IsAtWork book c.args.t u c.in-Some.image
    = record { within = within; work = there; whole = c.remaining-whole.ensures.whole; first = ap (λ (s : Submission). s.inputs.a) (sym c.submission.ensures.value) ∙ c.in-Some.is } in
    let P : Book → Type 0 = λ v. IfOk c.begin.result (TakesAt v c.args.t (with_work book c.args.t (Some new))) in
    subst P c.self.view_is (takes-at book c.args.t c.in-Some.image u (slice_index u.order c.args.place) new c.begin.result at c.begin.ensures.taken)

pub returns-clause-same : goal.returns-clause-same
returns-clause-same c =
    let b = c.self.inside in
    let book : Book = record { table = b.store.table; kept = b.store.kept; in_progress = b.in_progress.items; log = b.log.items; side = b.side; room = room_in b.log.cap b.log.len b.store.table.outcomes } in
    let names = ap (λ (v : Book). length v.table.names) c.self.view_is in
    let u = c.in-Some-index_mut.progress in
    let there = found b.in_progress.items c.args.t c.index_mut.result.now u (omega (arith, c.requires.within, names, c.self.invariant.1.in_progress)) c.index_mut.ensures.value c.in-Some-index_mut.is in
    let P : Book → Type 0 = λ v. OnErr c.begin.result (with_work book c.args.t (Some c.begin.new.progress) ≡ v) in
    subst P c.self.view_is (same-at book c.args.t u c.begin.new.progress c.begin.result there c.begin.ensures.same)
