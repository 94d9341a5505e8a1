use Rattle.std.proofs.Common.{◌-◌}
use Rattle.mw_geodesic_distances.specs.Rows.{distance_at}
use Rattle.mw_geodesic_distances.specs.Grids.{grid}
use Rattle.mw_geodesic_distances.proofs.Swept.{IsSweptUp}
use Rattle.mw_geodesic_distances.proofs.sweeps.sweep_up.Given as goal

abbrev pub invariant-loop-done : goal.invariant-loop-done
invariant-loop-done l = IsSweptUp l.frame l.top (l.frame.height - l.done) (grid l.frame.width l.initial.numbers) (grid l.frame.width l.numbers) (distance_at l.other)
