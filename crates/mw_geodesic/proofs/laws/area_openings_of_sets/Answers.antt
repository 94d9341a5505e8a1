use Rattle.mw_geodesic.proofs.LargeComponents.{opened_union, opened_below_set, opened_rises, opened_again}
use Rattle.mw_geodesic.proofs.laws.area_openings_of_sets.Goals as goal

pub returns-clause-union : goal.returns-clause-union
returns-clause-union c = opened_union

pub returns-clause-anti_extensive : goal.returns-clause-anti_extensive
returns-clause-anti_extensive c = opened_below_set

pub returns-clause-increasing : goal.returns-clause-increasing
returns-clause-increasing c = opened_rises

pub returns-clause-idempotent : goal.returns-clause-idempotent
returns-clause-idempotent c = opened_again
