use Rattle.std.proofs.Common.{min}
use Rattle.mw_geodesic_distances.specs.Rows.{distance_at, IsRewritten}
use Rattle.mw_geodesic_distances.specs.Envelopes.{height_at}
use Rattle.mw_geodesic_distances.proofs.envelope.draw_part.Given as goal

abbrev pub invariant-loop-x : goal.invariant-loop-x
invariant-loop-x l = IsRewritten l.start l.x (λ x. min (height_at x l.site l.gap) l.top) (distance_at l.initial.row) (distance_at l.row)
