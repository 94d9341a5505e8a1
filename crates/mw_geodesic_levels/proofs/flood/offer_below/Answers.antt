use Rattle.mw_geodesic_levels.specs.Levels.{level_numbered}
use Rattle.mw_geodesic_levels.proofs.Rooms.{flooded_itself}
use Rattle.mw_geodesic_levels.proofs.flood.offer_below.Goals as goal

pub returns-else-stretch-frame : goal.returns-else-stretch-frame
returns-else-stretch-frame g c = flooded_itself c.args.frame (level_numbered g.P.Pixel.level c.args.mask.now) (level_numbered g.P.Pixel.level c.args.samples.now) c.args.queue.now
