use Rattle.std.proofs.Common.{◌-◌}
use Rattle.mw_geodesic_distances.specs.Rows.{distance_at}
use Rattle.mw_geodesic_distances.specs.Grids.{grid}
use Rattle.mw_geodesic_distances.proofs.Gaps.{IsLoweredBack}
use Rattle.mw_geodesic_distances.proofs.columns.lower_up.Given as goal

abbrev pub invariant-loop-done : goal.invariant-loop-done
invariant-loop-done l = IsLoweredBack l.fn.frame (l.fn.frame.height - l.done) (grid l.fn.frame.width l.initial.numbers) (grid l.fn.frame.width l.numbers) (distance_at l.other)
