use Rattle.mw_geodesic.proofs.Borders.{cleared_below, cleared_again, cleared_border}
use Rattle.mw_geodesic.proofs.laws.clearings.Goals as goal

pub returns-clause-anti_extensive : goal.returns-clause-anti_extensive
returns-clause-anti_extensive c = cleared_below

pub returns-clause-border : goal.returns-clause-border
returns-clause-border c = cleared_border

pub returns-clause-idempotent : goal.returns-clause-idempotent
returns-clause-idempotent c = cleared_again
