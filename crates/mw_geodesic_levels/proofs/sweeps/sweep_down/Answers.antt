use Rattle.mw_geodesic_levels.specs.Levels.{level_numbered}
use Rattle.mw_geodesic_levels.proofs.Raises.{raised_itself, raised_on}
use Rattle.mw_geodesic_levels.proofs.sweeps.sweep_down.Goals as goal

pub loop-y-init : goal.loop-y-init
loop-y-init g c = raised_itself c.args.frame (level_numbered g.P.Pixel.level c.args.mask.now) (level_numbered g.P.Pixel.level c.args.samples.now)

pub loop-y-preserved : goal.loop-y-preserved
loop-y-preserved g c = raised_on c.loop-y.invariant (raised_on c.lift.ensures c.run_right.ensures)
