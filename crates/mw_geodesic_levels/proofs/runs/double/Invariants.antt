use Rattle.std.proofs.Common.{◌≡◌, ℕ, ◌<◌, ◌≤◌}
use Rattle.mw_geodesic_levels.specs.Levels.{level_numbered}
use Rattle.mw_geodesic_levels.specs.Runs.{IsUnderRun}
use Rattle.mw_geodesic_levels.proofs.Blocks.{AreDoubled}
use Rattle.mw_geodesic_levels.proofs.runs.double.Given as goal

abbrev pub invariant-loop-j : goal.invariant-loop-j
invariant-loop-j g l = record {
  begun : (k : ℕ) → k < 64 → level_numbered g.P.Pixel.level l.run k ≡ level_numbered g.P.Pixel.level l.from k;
  under : (h : ℕ → ℕ) → IsUnderRun l.by (level_numbered g.P.Pixel.level l.from) (level_numbered g.P.Pixel.level l.through) h → (k : ℕ) → k < l.j → level_numbered g.P.Pixel.level l.run k ≤ h k;
  made : AreDoubled l.by (level_numbered g.P.Pixel.level l.through) (level_numbered g.P.Pixel.level l.ways) l.j;
}
