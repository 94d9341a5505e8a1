use Rattle.std.proofs.Common.{◌≡◌, ℕ, ◌<◌}
use Rattle.mw_geodesic_levels.specs.Levels.{level_numbered}
use Rattle.mw_geodesic_areas.proofs.opening.blank.Given as goal

abbrev pub invariant-loop-i : goal.invariant-loop-i
invariant-loop-i g l = record {
  done : (k : ℕ) → k < l.i → level_numbered g.P.Pixel.level l.samples k ≡ 0;
}
