use Rattle.std.proofs.Common.{arith}
use Rattle.mw_geodesic_levels.specs.Levels.{level_numbered}
use Rattle.mw_geodesic_levels.proofs.Rooms.{flooded_itself, flooded_on}
use Rattle.mw_geodesic_levels.proofs.flood.offer_along.Goals as goal

pub loop-x-init : goal.loop-x-init
loop-x-init g c = flooded_itself c.args.frame (level_numbered g.P.Pixel.level c.args.mask.now) (level_numbered g.P.Pixel.level c.args.samples.now) c.args.queue.now

pub offer-requires-clause-near : goal.offer-requires-clause-near
offer-requires-clause-near g c = c.reach-far.ensures.back (omega arith) (omega arith) c.loop-x.x _ (omega arith) (omega arith)

pub loop-x-preserved : goal.loop-x-preserved
loop-x-preserved g c = flooded_on c.loop-x.invariant c.offer.ensures
