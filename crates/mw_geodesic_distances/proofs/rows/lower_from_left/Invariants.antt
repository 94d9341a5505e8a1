use Rattle.std.proofs.Common.{◌+◌, ◌-◌, min}
use Rattle.mw_geodesic_distances.specs.Rows.{distance_at, IsRewritten}
use Rattle.mw_geodesic_distances.proofs.rows.lower_from_left.Given as goal

abbrev pub invariant-loop-x : goal.invariant-loop-x
invariant-loop-x l = IsRewritten 1 l.x (λ k. min (distance_at l.initial.row k) (distance_at l.other (k - 1) + 1)) (distance_at l.initial.row) (distance_at l.row)
