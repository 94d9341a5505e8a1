use Rattle.mw_geodesic_levels.specs.Levels.{level_numbered}
use Rattle.std.proofs.Common.{◌+◌}
use Rattle.mw_geodesic_levels.proofs.Rooms.{flooded_by}
use Rattle.mw_geodesic_levels.proofs.Raises.{raised_itself}
use Rattle.mw_geodesic_levels.proofs.plateaus.wait.Goals as goal

pub returns-then-alone : goal.returns-then-alone
returns-then-alone g c =
    let level = g.P.Pixel.level in
    flooded_by c.args.frame (level_numbered level c.args.mask.now) (level_numbered level c.args.samples.now) (level_numbered level c.args.samples.now) (c.args.queue.now + 1) c.wait_alone.new.queue
    (raised_itself c.args.frame (level_numbered level c.args.mask.now) (level_numbered level c.args.samples.now)) c.wait_alone.ensures
