use Rattle.mw_geodesic.proofs.Maxima.{maxima_by_paths}
use Rattle.mw_geodesic.proofs.laws.maxima.Goals as goal

pub returns : goal.returns
returns c = maxima_by_paths
