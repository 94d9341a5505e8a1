use Rattle.mw_geodesic_distances.specs.Rows.{distance_at}
use Rattle.mw_geodesic_distances.specs.Grids.{grid}
use Rattle.mw_geodesic_distances.proofs.Swept.{IsSweptDown}
use Rattle.mw_geodesic_distances.proofs.sweeps.sweep_down.Given as goal

abbrev pub invariant-loop-y : goal.invariant-loop-y
invariant-loop-y l = IsSweptDown l.frame l.top l.y (grid l.frame.width l.initial.numbers) (grid l.frame.width l.numbers) (distance_at l.other)
