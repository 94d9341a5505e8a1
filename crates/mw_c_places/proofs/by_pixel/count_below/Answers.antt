use Rattle.std.proofs.Common.{◌-◌, arith}
use Rattle.mw_c_places.proofs.UnderOffsets.{below_more}
use Rattle.mw_c_places.proofs.by_pixel.count_below.Goals as goal

pub each-preserved : goal.each-preserved
each-preserved g c = record {
  counted = below_more (g.S.Levels.image c.args.f.now) c.args.offsets.now c.args.limit c.each.left (c.each.left - 1) c.args.x c.args.y c.each.count c.one_below-count.result _ c.level_from.result (omega arith) (omega arith) c.level_from.ensures c.each.invariant.counted c.one_below-count.ensures.is;
  small = omega arith;
}
