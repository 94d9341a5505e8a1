use Rattle.std.proofs.Common.{ℕ}
use Rattle.mw_geodesic_areas.specs.Forests.{AreRoots}
use Rattle.mw_geodesic_levels.specs.Levels.{level_numbered}
use Rattle.mw_geodesic_areas.proofs.Roots.{Resolved}
use Rattle.mw_geodesic_areas.proofs.taking.resolve.Given as goal

abbrev pub invariant-loop-i : goal.invariant-loop-i
invariant-loop-i g l = (c : ℕ → ℕ) → AreRoots l.parent c → Resolved c (level_numbered g.P.Pixel.level l.initial.out) (level_numbered g.P.Pixel.level l.out) l.i
