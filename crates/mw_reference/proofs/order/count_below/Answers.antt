use Rattle.std.proofs.Common.{arith}
use Rattle.mw_reference.proofs.Loops.{one_below_more}
use Rattle.mw_reference.proofs.order.count_below.Goals as goal

pub loop-i-preserved : goal.loop-i-preserved
loop-i-preserved c = record {
  counted = one_below_more c.args.image.now c.args.element.now c.args.limit c.loop-i.i c.args.x c.args.y c.loop-i.count c.one_below-count.result _ c.sample_under.result (omega arith) c.sample_under.ensures
      c.loop-i.invariant.counted c.one_below-count.ensures.is;
  small = omega arith;
}
