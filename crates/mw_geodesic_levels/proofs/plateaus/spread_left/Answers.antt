use Rattle.std.proofs.Common.{arith, inr, refl}
use Rattle.mw_geodesic_levels.specs.Levels.{level_numbered}
use Rattle.mw_geodesic_levels.proofs.Raises.{raised_itself, raised_on, near_across}
use Rattle.mw_geodesic_levels.proofs.plateaus.spread_left.Goals as goal

pub loop-done-init : goal.loop-done-init
loop-done-init g c = raised_itself c.args.frame (level_numbered g.P.Pixel.level c.args.mask.now) (level_numbered g.P.Pixel.level c.args.samples.now)

pub level_with-requires-clause-near : goal.level_with-requires-clause-near
level_with-requires-clause-near g c = near_across (omega arith) (omega arith) (omega arith) (omega arith) (inr refl)

pub loop-done-preserved : goal.loop-done-preserved
loop-done-preserved g c = raised_on c.loop-done.invariant c.level_with.ensures
