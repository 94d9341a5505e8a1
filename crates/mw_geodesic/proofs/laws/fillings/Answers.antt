use Rattle.mw_geodesic.proofs.Borders.{filled_above, filled_again, filled_border}
use Rattle.mw_geodesic.proofs.laws.fillings.Goals as goal

pub returns-clause-extensive : goal.returns-clause-extensive
returns-clause-extensive c = filled_above

pub returns-clause-border : goal.returns-clause-border
returns-clause-border c = filled_border

pub returns-clause-idempotent : goal.returns-clause-idempotent
returns-clause-idempotent c = filled_again
