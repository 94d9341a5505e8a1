use Rattle.std.proofs.Common.{◌≡◌, ℕ, ◌+◌, ◌<◌}
use Rattle.mw_geodesic_levels.specs.Levels.{level_numbered}
use Rattle.mw_geodesic_levels.specs.Runs.{along}
use Rattle.mw_geodesic_levels.proofs.runs.load.Given as goal

abbrev pub invariant-loop-k : goal.invariant-loop-k
invariant-loop-k g l = record {
  before : (j : ℕ) → j < 64 → level_numbered g.P.Pixel.level l.run j ≡ level_numbered g.P.Pixel.level l.initial.run j;
  block : (j : ℕ) → j < l.k → level_numbered g.P.Pixel.level l.run (64 + j) ≡ level_numbered g.P.Pixel.level l.samples (along l.forward l.start j);
}
