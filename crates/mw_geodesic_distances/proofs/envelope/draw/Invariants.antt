use Rattle.std.proofs.Common.{length}
use Rattle.mw_geodesic_distances.specs.Rows.{distance_at}
use Rattle.mw_geodesic_distances.proofs.Drawn.{IsDrawnTo}
use Rattle.mw_geodesic_distances.proofs.envelope.draw.Given as goal

abbrev pub invariant-loop-k : goal.invariant-loop-k
invariant-loop-k l = IsDrawnTo (distance_at l.gaps) (length l.gaps) l.top l.count l.k (distance_at l.starts) (distance_at l.row)
