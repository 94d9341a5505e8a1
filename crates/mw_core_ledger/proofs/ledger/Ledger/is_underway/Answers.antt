use Rattle.std.proofs.Common.{◌↔◌, IsTrue, length, ap, subst, arith}
use Rattle.mw_core_tasks.specs.mw_core_laws.TaskEvents.{IsUnderway}
use Rattle.mw_core_ledger.specs.Books.{Book, seen_of, room_in}
use Rattle.mw_core_ledger.proofs.WorkLemmas.{found, runs-underway, underway-runs}
use Rattle.mw_core_ledger.proofs.ledger.Ledger.is_underway.Goals as goal

pub returns-in-Some : goal.returns-in-Some
returns-in-Some c =
    let b = c.self.inside in
    let k = c.args.task in
    let u = c.in-Some.progress in
    let names = ap (λ (v : Book). length v.table.names) c.self.view_is in
    let there = found b.in_progress.items k.ticket c.index.result.now u (omega (arith, c.requires, names, c.self.invariant.1.in_progress)) c.index.ensures c.in-Some.is in
    let book : Book = record { table = b.store.table; kept = b.store.kept; in_progress = b.in_progress.items; log = b.log.items; side = b.side; room = room_in b.log.cap b.log.len b.store.table.outcomes } in
    let whole = c.remaining-whole.ensures.whole in
    let P : Book → Type 0 = λ v. IsTrue c.is_running.result ↔ IsUnderway (seen_of v) k in
    subst P c.self.view_is (λ r. runs-underway book k u there whole (c.is_running.ensures.0 r), λ w. c.is_running.ensures.1 (underway-runs book k u there whole w))
