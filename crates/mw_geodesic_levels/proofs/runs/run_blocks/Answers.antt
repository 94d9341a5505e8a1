use Rattle.mw_geodesic_levels.specs.Levels.{level_numbered}
use Rattle.mw_geodesic_levels.proofs.Raises.{raised_itself, raised_on}
use Rattle.mw_geodesic_levels.proofs.runs.run_blocks.Goals as goal

pub loop-block-init : goal.loop-block-init
loop-block-init g c = raised_itself c.args.frame (level_numbered g.P.Pixel.level c.args.mask.now) (level_numbered g.P.Pixel.level c.args.samples.now)

pub loop-block-preserved : goal.loop-block-preserved
loop-block-preserved g c = raised_on c.loop-block.invariant c.run_in_block.ensures
