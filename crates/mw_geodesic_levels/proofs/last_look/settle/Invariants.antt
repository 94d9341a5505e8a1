use Rattle.std.proofs.Common.{◌*◌}
use Rattle.mw_geodesic_levels.specs.Levels.{level_numbered, room, IsRaised}
use Rattle.mw_geodesic_levels.proofs.last_look.settle.Given as goal

abbrev pub invariant-loop-rise : goal.invariant-loop-rise
invariant-loop-rise g l = IsRaised l.frame (level_numbered g.P.Pixel.level l.mask) (level_numbered g.P.Pixel.level l.initial.samples) (level_numbered g.P.Pixel.level l.samples)

abbrev pub decreases-loop-rise : goal.decreases-loop-rise
decreases-loop-rise g l = room (level_numbered g.P.Pixel.level l.mask) (level_numbered g.P.Pixel.level l.samples) (l.frame.height * l.frame.width)
