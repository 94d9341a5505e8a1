use Rattle.mw_geodesic_levels.specs.Levels.{level_numbered}
use Rattle.std.proofs.Common.{◌+◌}
use Rattle.mw_geodesic_levels.proofs.Rooms.{flooded_by}
use Rattle.mw_geodesic_levels.proofs.Raises.{raised_on}
use Rattle.mw_geodesic_levels.proofs.plateaus.wait_along.Goals as goal

pub returns : goal.returns
returns g c =
    let level = g.P.Pixel.level in
    flooded_by c.args.frame (level_numbered level c.args.mask.now) (level_numbered level c.args.samples.now) (level_numbered level c.spread_right-to.new.samples) (c.args.queue.now + 1) c.push_stretch.new.self
    (raised_on c.spread_left-from.ensures.raised c.spread_right-to.ensures.raised) c.push_stretch.ensures
