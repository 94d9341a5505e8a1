use Rattle.std.proofs.Common.{arith, refl}
use Rattle.mw_geodesic_levels.specs.Levels.{level_numbered}
use Rattle.mw_geodesic_levels.proofs.Raises.{raised_itself, raised_on}
use Rattle.mw_geodesic_levels.proofs.flood.flood.Goals as goal

pub loop-batch-init : goal.loop-batch-init
loop-batch-init g c = raised_itself c.args.frame (level_numbered g.P.Pixel.level c.args.mask.now) (level_numbered g.P.Pixel.level c.args.samples.now)

pub loop-batch-preserved : goal.loop-batch-preserved
loop-batch-preserved g c = raised_on c.loop-batch.invariant c.flood_batch.ensures.raised

pub loop-batch-smaller : goal.loop-batch-smaller
loop-batch-smaller g c =
    let cheaper = c.flood_batch.ensures.cheaper in
    omega (arith, c.in-Some.ensures refl)
