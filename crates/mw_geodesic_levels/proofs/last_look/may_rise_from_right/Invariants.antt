use Rattle.std.proofs.Common.{◌≡◌, ℕ, ◌+◌, ◌<◌, false}
use Rattle.mw_geodesic_levels.specs.Levels.{level_numbered, IsStillTo}
use Rattle.mw_geodesic_levels.proofs.last_look.may_rise_from_right.Given as goal

abbrev pub invariant-loop-u : goal.invariant-loop-u
invariant-loop-u g l = l.any ≡ false → (k : ℕ) → k + 1 < l.u → IsStillTo l.frame (level_numbered g.P.Pixel.level l.mask) (level_numbered g.P.Pixel.level l.samples) k l.y (k + 1) l.v
