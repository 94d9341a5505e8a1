use Rattle.std.proofs.Common.{length}
use Rattle.mw_geodesic_distances.specs.Rows.{distance_at}
use Rattle.mw_geodesic_distances.specs.Envelopes.{IsEnvelope}
use Rattle.mw_geodesic_distances.proofs.envelope.build.Given as goal

abbrev pub invariant-loop-u : goal.invariant-loop-u
invariant-loop-u l = IsEnvelope (distance_at l.gaps) (length l.gaps) l.u l.count (distance_at l.sites) (distance_at l.starts)
