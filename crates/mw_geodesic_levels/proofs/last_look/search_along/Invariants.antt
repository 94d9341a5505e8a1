use Rattle.std.proofs.Common.{ℕ, ◌<◌}
use Rattle.mw_geodesic_levels.specs.Levels.{level_numbered, IsStillBy}
use Rattle.mw_geodesic_levels.proofs.last_look.search_along.Given as goal

abbrev pub invariant-loop-x : goal.invariant-loop-x
invariant-loop-x g l = (k : ℕ) → k < l.x → IsStillBy l.frame (level_numbered g.P.Pixel.level l.mask) (level_numbered g.P.Pixel.level l.samples) k l.y l.v
