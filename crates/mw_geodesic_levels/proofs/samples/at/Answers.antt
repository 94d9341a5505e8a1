use Rattle.mw_geodesic_levels.proofs.Raises.{level_read}
use Rattle.mw_geodesic_levels.proofs.samples.at.Goals as goal

pub returns : goal.returns
returns g c = level_read g.P.Pixel.level c.args.samples.now c.args.i c.index-samples-i.result c.requires c.index-samples-i.is
