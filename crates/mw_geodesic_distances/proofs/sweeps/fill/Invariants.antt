use Rattle.mw_geodesic_distances.specs.Rows.{distance_at, IsRewritten}
use Rattle.mw_geodesic_distances.proofs.sweeps.fill.Given as goal

abbrev pub invariant-loop-x : goal.invariant-loop-x
invariant-loop-x l = IsRewritten 0 l.x (λ k. l.number) (distance_at l.initial.row) (distance_at l.row)
