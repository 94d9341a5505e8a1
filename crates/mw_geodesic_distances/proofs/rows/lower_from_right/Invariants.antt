use Rattle.std.proofs.Common.{◌+◌, ◌-◌, min}
use Rattle.mw_geodesic_distances.specs.Rows.{distance_at, IsRewritten}
use Rattle.mw_geodesic_distances.proofs.rows.lower_from_right.Given as goal

abbrev pub invariant-loop-u : goal.invariant-loop-u
invariant-loop-u l = IsRewritten 0 (l.u - 1) (λ k. min (distance_at l.initial.row k) (distance_at l.other (k + 1) + 1)) (distance_at l.initial.row) (distance_at l.row)
