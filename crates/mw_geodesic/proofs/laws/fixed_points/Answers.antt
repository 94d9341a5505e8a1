use Rattle.std.proofs.Common.{◌*◌}
use Rattle.mw_geodesic.proofs.Geodesic.{spread_above, spread_within, spread_least, closed_from_step, reconstruction_fixed}
use Rattle.mw_geodesic.proofs.laws.fixed_points.Goals as goal

pub returns-clause-above : goal.returns-clause-above
returns-clause-above c = λ b mask marker. spread_above b mask marker (marker.height * marker.width)

pub returns-clause-within : goal.returns-clause-within
returns-clause-within c = λ b mask marker. spread_within b mask marker (marker.height * marker.width)

pub returns-clause-fixed : goal.returns-clause-fixed
returns-clause-fixed c = reconstruction_fixed

pub returns-clause-least : goal.returns-clause-least
returns-clause-least c = λ b mask marker h shape above below. spread_least b mask marker h (marker.height * marker.width) shape above (closed_from_step b mask h below)
