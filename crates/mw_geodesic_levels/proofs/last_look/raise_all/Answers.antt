use Rattle.mw_geodesic_levels.proofs.Raises.{raised_on}
use Rattle.mw_geodesic_levels.proofs.last_look.raise_all.Goals as goal

pub returns : goal.returns
returns g c = raised_on c.sweep_all.ensures c.flood.ensures
