use Rattle.mw_model.specs.Flat.{erosion}
use Rattle.mw_model.specs.Iterates.{times}
use Rattle.mw_geodesic.proofs.OpeningLaws.{rises, again, again_by_neighbours}
use Rattle.mw_geodesic.proofs.Reconstructed.{rebuilt_within}
use Rattle.mw_geodesic.proofs.laws.openings_by_reconstruction.Goals as goal

pub returns-clause-anti_extensive : goal.returns-clause-anti_extensive
returns-clause-anti_extensive c = λ around b n f. rebuilt_within around f (times n (erosion b) f)

pub returns-clause-increasing : goal.returns-clause-increasing
returns-clause-increasing c = rises

pub returns-clause-idempotent : goal.returns-clause-idempotent
returns-clause-idempotent c = again

pub returns-clause-by_neighbours : goal.returns-clause-by_neighbours
returns-clause-by_neighbours c = again_by_neighbours
