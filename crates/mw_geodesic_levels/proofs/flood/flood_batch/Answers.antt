use Rattle.mw_geodesic_levels.proofs.Rooms.{flooded_on}
use Rattle.mw_geodesic_levels.proofs.flood.flood_batch.Goals as goal

pub returns : goal.returns
returns g c = flooded_on c.offer_batch.ensures c.flood_plateaus.ensures
