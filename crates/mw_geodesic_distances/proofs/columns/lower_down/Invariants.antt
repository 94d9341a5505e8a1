use Rattle.mw_geodesic_distances.specs.Rows.{distance_at}
use Rattle.mw_geodesic_distances.specs.Grids.{grid}
use Rattle.mw_geodesic_distances.proofs.Gaps.{IsLoweredTo}
use Rattle.mw_geodesic_distances.proofs.columns.lower_down.Given as goal

abbrev pub invariant-loop-y : goal.invariant-loop-y
invariant-loop-y l = IsLoweredTo l.fn.frame l.y (grid l.fn.frame.width l.initial.numbers) (grid l.fn.frame.width l.numbers) (distance_at l.other)
