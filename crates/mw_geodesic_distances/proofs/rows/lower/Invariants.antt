use Rattle.std.proofs.Common.{◌+◌, min}
use Rattle.mw_geodesic_distances.specs.Rows.{distance_at, IsRewritten}
use Rattle.mw_geodesic_distances.proofs.rows.lower.Given as goal

abbrev pub invariant-loop-x : goal.invariant-loop-x
invariant-loop-x l = IsRewritten 0 l.x (λ k. min (distance_at l.initial.row k) (distance_at l.other k + 1)) (distance_at l.initial.row) (distance_at l.row)
