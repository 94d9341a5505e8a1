use Rattle.mw_geodesic.proofs.Reconstructed.{rebuilt_again, rebuilt_within_itself}
use Rattle.mw_geodesic.proofs.laws.idempotent.Goals as goal

pub returns-clause-marker : goal.returns-clause-marker
returns-clause-marker c = rebuilt_again

pub returns-clause-mask : goal.returns-clause-mask
returns-clause-mask c = rebuilt_within_itself
