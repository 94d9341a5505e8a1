use Rattle.mw_geodesic.proofs.Complements.{closing_dual}
use Rattle.mw_geodesic.proofs.Duality.{dual}
use Rattle.mw_geodesic.proofs.laws.duality.Goals as goal

pub returns-clause-reconstruction : goal.returns-clause-reconstruction
returns-clause-reconstruction c = dual

pub returns-clause-opening : goal.returns-clause-opening
returns-clause-opening c = closing_dual
