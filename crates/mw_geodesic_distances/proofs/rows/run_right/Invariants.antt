use Rattle.mw_geodesic_distances.specs.Rows.{distance_at}
use Rattle.mw_geodesic_distances.proofs.Lists.{IsRunning}
use Rattle.mw_geodesic_distances.proofs.rows.run_right.Given as goal

abbrev pub invariant-loop-x : goal.invariant-loop-x
invariant-loop-x l = IsRunning l.x l.last (distance_at l.initial.row) (distance_at l.row)
