use Rattle.std.proofs.Common.{◌-◌, arith}
use Rattle.mw_c_places.proofs.UnderOffsets.{lesser_more}
use Rattle.mw_c_places.proofs.by_pixel.least_under.Goals as goal

pub each-preserved : goal.each-preserved
each-preserved g c = record {
  so_far = lesser_more (g.S.Levels.image c.args.f.now) c.args.offsets.now c.each.left (c.each.left - 1) c.args.x c.args.y c.each.best c.lesser-best.result _ c.level_from.result (omega arith) (omega arith) c.level_from.ensures c.each.invariant.so_far c.lesser-best.ensures;
  within = omega arith;
}
