use Rattle.std.proofs.Common.{ℕ, ◌<◌}
use Rattle.mw_geodesic_levels.specs.Levels.{level_numbered, IsStillBy}
use Rattle.mw_geodesic_levels.proofs.last_look.first_rise.Given as goal

abbrev pub invariant-loop-y : goal.invariant-loop-y
invariant-loop-y g l = (k : ℕ) → k < l.y → (x v : ℕ) → x < l.frame.width → v < l.frame.height → IsStillBy l.frame (level_numbered g.P.Pixel.level l.mask) (level_numbered g.P.Pixel.level l.samples) x k v
