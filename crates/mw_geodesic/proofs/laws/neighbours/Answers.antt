use Rattle.mw_geodesic.proofs.NeighbourLemmas.{four_symmetric, eight_symmetric}
use Rattle.mw_geodesic.proofs.laws.neighbours.Goals as goal

pub returns-clause-four : goal.returns-clause-four
returns-clause-four c = four_symmetric

pub returns-clause-eight : goal.returns-clause-eight
returns-clause-eight c = eight_symmetric
