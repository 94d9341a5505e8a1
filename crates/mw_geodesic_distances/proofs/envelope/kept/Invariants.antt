use Rattle.std.proofs.Common.{length}
use Rattle.mw_geodesic_distances.specs.Rows.{distance_at}
use Rattle.mw_geodesic_distances.specs.Envelopes.{IsEnvelopeCut}
use Rattle.mw_geodesic_distances.proofs.envelope.kept.Given as goal

abbrev pub invariant-parts : goal.invariant-parts
invariant-parts l = IsEnvelopeCut (distance_at l.gaps) (length l.gaps) l.u l.count l.k (distance_at l.sites) (distance_at l.starts)

abbrev pub decreases-parts : goal.decreases-parts
decreases-parts l = l.k
