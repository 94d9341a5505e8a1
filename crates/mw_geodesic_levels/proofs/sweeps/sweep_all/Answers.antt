use Rattle.mw_geodesic_levels.specs.Levels.{level_numbered}
use Rattle.mw_geodesic_levels.proofs.Raises.{raised_itself, raised_on}
use Rattle.mw_geodesic_levels.proofs.sweeps.sweep_all.Goals as goal

pub loop-pair-init : goal.loop-pair-init
loop-pair-init g c = raised_itself c.args.frame (level_numbered g.P.Pixel.level c.args.mask.now) (level_numbered g.P.Pixel.level c.args.samples.now)

pub loop-pair-preserved : goal.loop-pair-preserved
loop-pair-preserved g c = raised_on c.loop-pair.invariant c.sweep_again.ensures
