use Rattle.mw_geodesic_levels.specs.Levels.{level_numbered}
use Rattle.mw_geodesic_levels.proofs.Raises.{raised_itself, raised_on}
use Rattle.mw_geodesic_levels.proofs.sweeps.sweep_again.Goals as goal

pub returns-then-first : goal.returns-then-first
returns-then-first g c = raised_on c.sweep_down.ensures c.sweep_up.ensures

pub returns-else-many_wait : goal.returns-else-many_wait
returns-else-many_wait g c = raised_itself c.args.frame (level_numbered g.P.Pixel.level c.args.mask.now) (level_numbered g.P.Pixel.level c.args.samples.now)
