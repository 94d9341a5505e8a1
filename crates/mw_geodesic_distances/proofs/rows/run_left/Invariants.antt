use Rattle.mw_geodesic_distances.specs.Rows.{distance_at}
use Rattle.mw_geodesic_distances.proofs.Lists.{IsRunningBack}
use Rattle.mw_geodesic_distances.proofs.rows.run_left.Given as goal

abbrev pub invariant-loop-done : goal.invariant-loop-done
invariant-loop-done l = IsRunningBack l.n l.done l.last (distance_at l.initial.row) (distance_at l.row)
