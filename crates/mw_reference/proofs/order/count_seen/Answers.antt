use Rattle.std.proofs.Common.{arith}
use Rattle.mw_reference.proofs.Loops.{one_seen_more}
use Rattle.mw_reference.proofs.order.count_seen.Goals as goal

pub loop-i-preserved : goal.loop-i-preserved
loop-i-preserved c = record {
  counted = one_seen_more c.args.image.now c.args.element.now c.loop-i.i c.args.x c.args.y c.loop-i.count c.one_seen-count.result _ c.sample_under.result (omega arith) c.sample_under.ensures
      c.loop-i.invariant.counted c.one_seen-count.ensures.is;
  small = omega arith;
}
