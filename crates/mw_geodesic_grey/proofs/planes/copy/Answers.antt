use Rattle.mw_geodesic_levels.proofs.Rebuilt.{same_plane}
use Rattle.mw_geodesic_grey.proofs.planes.copy.Goals as goal

pub returns-clause-same : goal.returns-clause-same
returns-clause-same g c =
    same_plane c.args.plane.now c.new.result c.width-width.result c.height-height.result c.in_ok-samples.samples.items c.samples.result.now c.new.ensures c.width-width.ensures.value c.height-height.ensures.value
    c.in_ok-samples.ensures.items c.samples.ensures.value
