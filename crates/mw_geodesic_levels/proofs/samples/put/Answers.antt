use Rattle.mw_geodesic_levels.proofs.Raises.{put_is}
use Rattle.mw_geodesic_levels.proofs.samples.put.Goals as goal

pub returns : goal.returns
returns g c = put_is g.P.Pixel.level c.args.samples.now c.args.i c.args.s c.requires
