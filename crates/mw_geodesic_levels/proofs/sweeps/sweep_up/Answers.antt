use Rattle.mw_geodesic_levels.specs.Levels.{level_numbered}
use Rattle.mw_geodesic_levels.proofs.Raises.{raised_itself, raised_on}
use Rattle.mw_geodesic_levels.proofs.sweeps.sweep_up.Goals as goal

pub loop-done-init : goal.loop-done-init
loop-done-init g c = raised_itself c.args.frame (level_numbered g.P.Pixel.level c.args.mask.now) (level_numbered g.P.Pixel.level c.args.samples.now)

pub loop-done-preserved : goal.loop-done-preserved
loop-done-preserved g c = raised_on c.loop-done.invariant (raised_on c.lift.ensures c.run_left.ensures)
