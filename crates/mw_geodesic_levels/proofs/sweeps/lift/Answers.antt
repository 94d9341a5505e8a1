use Rattle.mw_geodesic_levels.proofs.Raises.{raised_on}
use Rattle.mw_geodesic_levels.proofs.sweeps.lift.Goals as goal

pub returns-then-frame : goal.returns-then-frame
returns-then-frame g c = raised_on c.pull_straight.ensures (raised_on c.pull_from_left.ensures c.pull_from_right.ensures)
