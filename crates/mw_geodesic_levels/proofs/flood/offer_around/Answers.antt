use Rattle.mw_geodesic_levels.proofs.Rooms.{flooded_on}
use Rattle.mw_geodesic_levels.proofs.flood.offer_around.Goals as goal

pub returns : goal.returns
returns g c = flooded_on c.offer_left.ensures (flooded_on c.offer_right.ensures (flooded_on c.offer_above.ensures c.offer_below.ensures))
