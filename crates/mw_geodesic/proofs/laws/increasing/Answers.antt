use Rattle.mw_geodesic.proofs.Reconstructed.{rebuilt_rises}
use Rattle.mw_geodesic.proofs.laws.increasing.Goals as goal

pub returns : goal.returns
returns c = rebuilt_rises
