use Rattle.mw_geodesic_runs.proofs.ChangedPlaces.{without_lowest}
use Rattle.mw_geodesic_runs.proofs.changes.without_lowest.Goals as goal

pub returns : goal.returns
returns c = λ t low. without_lowest c.args.bits t low
