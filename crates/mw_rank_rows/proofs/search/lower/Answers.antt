use Rattle.std.proofs.Common.{arith}
use Rattle.mw_rank_rows.proofs.Fronts.{lowered}
use Rattle.mw_rank_rows.proofs.search.lower.Goals as goal

pub loop-level-init : goal.loop-level-init
loop-level-init c = λ levels u t. t

pub overflow_mul-level : goal.overflow_mul-level
overflow_mul-level c =
    let held = c.requires.held in
    let t = c.loop-level.invariant held.0 held.1 held.2 in
    omega (arith, t.inside, t.short)

pub lanes_at-requires : goal.lanes_at-requires
lanes_at-requires c =
    let held = c.requires.held in
    let t = c.loop-level.invariant held.0 held.1 held.2 in
    omega (arith, t.inside, t.size)

pub loop-level-preserved : goal.loop-level-preserved
loop-level-preserved c = λ levels u before.
    let t = c.loop-level.invariant levels u before in
    lowered levels u c.args.counts.now c.loop-level.level c.loop-level.below c.lanes_at.result c.minus-below.result (omega arith) c.minus-below.ensures.size c.lanes_at.ensures.lanes c.minus-below.ensures.lanes t

pub returns-else-not-all_less-clause-counts : goal.returns-else-not-all_less-clause-counts
returns-else-not-all_less-clause-counts c = c.loop-level.invariant

pub returns-after-loop-level-clause-counts : goal.returns-after-loop-level-clause-counts
returns-after-loop-level-clause-counts c = c.loop-level.invariant
