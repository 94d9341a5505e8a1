use Rattle.mw_geodesic_levels.proofs.Raises.{raised_on}
use Rattle.mw_geodesic_levels.proofs.runs.run_right.Goals as goal

pub returns : goal.returns
returns g c = raised_on c.run_blocks.ensures c.run_rest.ensures
