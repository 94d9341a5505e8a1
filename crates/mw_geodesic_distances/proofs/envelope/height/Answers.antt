use Rattle.mw_geodesic_distances.proofs.Heights.{height_made}
use Rattle.mw_geodesic_distances.proofs.envelope.height.Goals as goal

pub returns : goal.returns
returns c = height_made c.args.x c.args.u c.args.gap c.distance-apart.result c.from-gap.result c.distance-apart.ensures c.from-gap.ensures
