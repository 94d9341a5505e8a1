use Rattle.std.proofs.Common.{length, ap, arith}
use Rattle.mw_model.proofs.mw_facts.Counts.{count_by-most}
use Rattle.mw_model.specs.Tasks.{is_ready, task_count}
use Rattle.mw_core_ledger.specs.Books.{Book}
use Rattle.mw_core_ledger.proofs.WorkLemmas.{found}
use Rattle.mw_core_ledger.proofs.ledger.Ledger.ready_of.Goals as goal

pub returns-in-Some-clause-small : goal.returns-in-Some-clause-small
returns-in-Some-clause-small c =
    let o = c.self.invariant.1 in
    let p = c.in-Some.progress.progress in
    let names = ap (λ (b : Book). length b.table.names) c.self.view_is in
    let there = found c.self.inside.in_progress.items c.args.t c.index.result.now c.in-Some.progress (omega (arith, c.requires, names, o.in_progress)) c.index.ensures c.in-Some.is in
    omega (arith, c.ready.ensures.value, count_by-most (is_ready p) (task_count p), o.most c.args.t c.in-Some.progress there)
