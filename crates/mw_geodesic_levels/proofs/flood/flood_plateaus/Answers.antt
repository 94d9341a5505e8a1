use Rattle.std.proofs.Common.{arith, refl}
use Rattle.mw_geodesic_levels.specs.Levels.{level_numbered}
use Rattle.mw_geodesic_levels.proofs.Rooms.{flooded_itself, flooded_on, flooded_less}
use Rattle.mw_geodesic_levels.proofs.flood.flood_plateaus.Goals as goal

pub loop-stretch-init : goal.loop-stretch-init
loop-stretch-init g c = flooded_itself c.args.frame (level_numbered g.P.Pixel.level c.args.mask.now) (level_numbered g.P.Pixel.level c.args.samples.now) c.args.queue.now

pub loop-stretch-preserved : goal.loop-stretch-preserved
loop-stretch-preserved g c = flooded_on (flooded_less c.loop-stretch.invariant c.in-Some.ensures.kept) c.offer_stretch.ensures

pub loop-stretch-smaller : goal.loop-stretch-smaller
loop-stretch-smaller g c =
    let cheaper = c.offer_stretch.ensures.cheaper in
    omega (arith, c.in-Some.ensures.less refl)

pub returns : goal.returns
returns g c = flooded_less c.loop-stretch.invariant c.in_default.ensures.kept
