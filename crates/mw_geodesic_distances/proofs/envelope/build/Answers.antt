use Rattle.std.proofs.Common.{length}
use Rattle.mw_geodesic_distances.specs.Rows.{distance_at}
use Rattle.mw_geodesic_distances.proofs.Envelopes.{envelope_none}
use Rattle.mw_geodesic_distances.proofs.envelope.build.Goals as goal

pub loop-u-init : goal.loop-u-init
loop-u-init c = envelope_none (distance_at c.args.gaps.now) (length c.args.gaps.now) (distance_at c.args.sites.now) (distance_at c.args.starts.now)
