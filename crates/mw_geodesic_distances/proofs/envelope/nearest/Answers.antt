use Rattle.std.proofs.Common.{ℕ, List, length, subst}
use Rattle.mw_geodesic_distances.specs.Rows.{distance_at}
use Rattle.mw_geodesic_distances.specs.Envelopes.{IsNearest}
use Rattle.mw_geodesic_distances.proofs.envelope.nearest.Goals as goal

pub returns : goal.returns
returns c = λ x lt. subst (λ (t : List ℕ). IsNearest (distance_at t) (length t) c.args.top x (distance_at c.draw.new.row x)) c.copy_from_slice.ensures.after (c.draw.ensures x lt)
