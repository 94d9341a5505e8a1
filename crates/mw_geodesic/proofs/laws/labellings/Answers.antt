use Rattle.mw_geodesic.proofs.Uniqueness.{one_labelling}
use Rattle.mw_geodesic.proofs.laws.labellings.Goals as goal

pub returns : goal.returns
returns c = one_labelling
