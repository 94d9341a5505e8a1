use Rattle.mw_geodesic.proofs.Components.{by_paths}
use Rattle.mw_geodesic.proofs.laws.paths.Goals as goal

pub returns : goal.returns
returns c = by_paths
