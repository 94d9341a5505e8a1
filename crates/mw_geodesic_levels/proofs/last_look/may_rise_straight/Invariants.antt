use Rattle.std.proofs.Common.{◌≡◌, ℕ, ◌<◌, false}
use Rattle.mw_geodesic_levels.specs.Levels.{level_numbered, IsStillTo}
use Rattle.mw_geodesic_levels.proofs.last_look.may_rise_straight.Given as goal

abbrev pub invariant-loop-x : goal.invariant-loop-x
invariant-loop-x g l = l.any ≡ false → (k : ℕ) → k < l.x → IsStillTo l.frame (level_numbered g.P.Pixel.level l.mask) (level_numbered g.P.Pixel.level l.samples) k l.y k l.v
