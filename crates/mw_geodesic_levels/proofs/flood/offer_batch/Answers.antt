use Rattle.mw_geodesic_levels.specs.Levels.{level_numbered}
use Rattle.mw_geodesic_levels.proofs.Rooms.{flooded_itself, flooded_on}
use Rattle.mw_geodesic_levels.proofs.flood.offer_batch.Goals as goal

pub loop-k-init : goal.loop-k-init
loop-k-init g c = flooded_itself c.args.frame (level_numbered g.P.Pixel.level c.args.mask.now) (level_numbered g.P.Pixel.level c.args.samples.now) c.args.queue.now

pub loop-k-preserved : goal.loop-k-preserved
loop-k-preserved g c = flooded_on c.loop-k.invariant c.offer_marked.ensures
