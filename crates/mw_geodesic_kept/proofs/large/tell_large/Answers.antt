use Rattle.std.proofs.Common.{arith, refl}
use Rattle.mw_geodesic_kept.proofs.ShownLarge.{tells_none, tells_next}
use Rattle.mw_geodesic_kept.proofs.large.tell_large.Goals as goal

pub loop-i-init : goal.loop-i-init
loop-i-init c = tells_none c.args.least c.args.areas.now c.args.numbers.now

pub loop-i-preserved : goal.loop-i-preserved
loop-i-preserved c = tells_next c.args.least c.args.areas.now c.args.numbers.now c.loop-i.numbers c.loop-i.i _ _ _ (omega arith) (omega arith) refl c.is_large.ensures c.loop-i.invariant

pub returns-clause-size : goal.returns-clause-size
returns-clause-size c = c.loop-i.invariant.size

pub returns-clause-each : goal.returns-clause-each
returns-clause-each c = λ k lt. c.loop-i.invariant.done k (omega arith)
