use Rattle.std.proofs.Common.{◌<◌, ℕ, List, length, Some, ap, sym, subst, ◌∙◌}
use Rattle.std.specs.List.{AllByRecursion}
use Rattle.mw_model.specs.declared.tasks.TaskId.{TaskId}
use Rattle.mw_model.specs.Refusals.{Table}
use Rattle.mw_core_ledger.specs.Books.{Book, seen_of}
use Rattle.mw_core_ledger.specs.Counts.{WaitFor}
use Rattle.mw_core.proofs.BookLemmas.{counted}
use Rattle.mw_core.proofs.FinishLemmas.{placed-under}
use Rattle.mw_core.proofs.tasks.take_result.Goals as goal

pub follow-requires-clause-count : goal.follow-requires-clause-count
follow-requires-clause-count c =
    let b = c.args.ledger.now in
    let placed = c.finish.ensures.placed c.in-None.is in
    counted (seen_of b) c.args.counts.now c.requires.counted ∙ ap (λ (x : Book). length x.table.names) (sym placed.book)

pub returns-in-None-clause-counted : goal.returns-in-None-clause-counted
returns-in-None-clause-counted c =
    let b = c.args.ledger.now in
    let placed = c.finish.ensures.placed c.in-None.is in
    c.follow.ensures b (Some placed.after) c.sound.ensures c.requires.counted (placed-under b c.finish.new.self c.args.done placed c.task-t.result c.task-t.ensures) c.running_of-was.ensures.value

pub settle-requires-clause-count : goal.settle-requires-clause-count
settle-requires-clause-count c =
    let settled = c.in-Some.ensures.settled in
    counted (seen_of c.args.ledger.now) c.args.counts.now c.requires.counted ∙ ap (λ (w : Table). length w.names) (sym settled.table)

pub settle-requires-clause-below : goal.settle-requires-clause-below
settle-requires-clause-below c =
    let Below : Table → Type 0 = λ w. AllByRecursion (λ u. u < length w.names) c.in-Some.waiters in
    let All : List ℕ → Type 0 = λ us. AllByRecursion (λ u. u < length c.finish.new.self.table.names) us in
    subst All (sym c.tickets.ensures) (subst Below (sym c.in-Some.ensures.settled.table) c.in-Some.ensures.below)

pub returns-in-Some-clause-counted : goal.returns-in-Some-clause-counted
returns-in-Some-clause-counted c =
    let b = c.args.ledger.now in
    let Named : TaskId → Type 0 = λ k. WaitFor b k.ticket c.in-Some.waiters in
    let Wait : List ℕ → Type 0 = λ us. WaitFor b c.task-t.result.ticket us in
    c.settle.ensures b c.args.done c.sound.ensures c.requires.counted c.in-Some.ensures.settled (ap (λ (k : TaskId). k.ticket) (sym c.task-t.ensures)) c.running_of-was.ensures.value
    (subst Wait (sym c.tickets.ensures) (subst Named (sym c.task-t.ensures) c.in-Some.ensures.waiting))
