use Rattle.mw_geodesic_levels.specs.Levels.{level_numbered}
use Rattle.mw_geodesic_levels.proofs.Raises.{raised_itself}
use Rattle.mw_geodesic_levels.proofs.runs.run_in_block.Goals as goal

pub returns-else-rises_in_block : goal.returns-else-rises_in_block
returns-else-rises_in_block g c = raised_itself c.args.frame (level_numbered g.P.Pixel.level c.args.mask.now) (level_numbered g.P.Pixel.level c.args.samples.now)
