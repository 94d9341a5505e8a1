use Rattle.std.proofs.Common.{◌-◌, arith}
use Rattle.mw_c_places.proofs.UnderOffsets.{greater_more}
use Rattle.mw_c_places.proofs.by_pixel.greatest_under.Goals as goal

pub each-preserved : goal.each-preserved
each-preserved g c = record {
  so_far = greater_more (g.S.Levels.image c.args.f.now) c.args.offsets.now c.each.left (c.each.left - 1) c.args.x c.args.y c.each.best c.greater-best.result _ c.level_from.result (omega arith) (omega arith) c.level_from.ensures c.each.invariant.so_far c.greater-best.ensures;
  within = omega arith;
}
