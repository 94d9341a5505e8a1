use Rattle.std.proofs.Common.{arith, inr, refl}
use Rattle.mw_geodesic_levels.specs.Levels.{level_numbered}
use Rattle.mw_geodesic_levels.proofs.Rooms.{flooded_itself}
use Rattle.mw_geodesic_levels.proofs.Raises.{near_across}
use Rattle.mw_geodesic_levels.proofs.flood.offer_right.Goals as goal

pub offer-requires-clause-near : goal.offer-requires-clause-near
offer-requires-clause-near g c = near_across (omega arith) (omega arith) (omega arith) (omega arith) (inr refl)

pub returns-else-q-frame : goal.returns-else-q-frame
returns-else-q-frame g c = flooded_itself c.args.frame (level_numbered g.P.Pixel.level c.args.mask.now) (level_numbered g.P.Pixel.level c.args.samples.now) c.args.queue.now
