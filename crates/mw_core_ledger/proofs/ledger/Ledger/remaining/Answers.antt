use Rattle.std.proofs.Common.{not, arith}
use Rattle.mw_model.proofs.mw_facts.Counts.{count_by-most}
use Rattle.mw_model.specs.Tasks.{flag, task_count}
use Rattle.mw_core_ledger.proofs.WorkLemmas.{found}
use Rattle.mw_core_ledger.proofs.ledger.Ledger.remaining.Goals as goal

pub returns-in-Some-clause-bounded : goal.returns-in-Some-clause-bounded
returns-in-Some-clause-bounded c =
    let o = c.self.invariant.1 in
    let u = c.in-Some.progress in
    let there = found c.self.inside.in_progress.items c.args.t c.index.result.now u (omega (arith, c.if-t-len.false, c.len.ensures.value, o.in_progress)) c.index.ensures c.in-Some.is in (
      omega (arith, c.from.ensures, c.remaining.ensures.value, o.left c.args.t u there),
      omega (arith, c.from.ensures, c.remaining.ensures.value, count_by-most (λ n. not (flag u.progress.finished n)) (task_count u.progress), o.most c.args.t u there),
    )
