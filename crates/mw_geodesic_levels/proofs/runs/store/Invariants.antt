use Rattle.std.proofs.Common.{ℕ, ◌+◌, ◌<◌, ◌≤◌, length}
use Rattle.mw_geodesic_levels.specs.Levels.{level_numbered}
use Rattle.mw_geodesic_levels.specs.Runs.{along}
use Rattle.mw_geodesic_levels.proofs.runs.store.Given as goal

abbrev pub invariant-loop-k : goal.invariant-loop-k
invariant-loop-k g l = record {
  over : (i : ℕ) → i < length l.initial.samples → level_numbered g.P.Pixel.level l.initial.samples i ≤ level_numbered g.P.Pixel.level l.samples i;
  within : (h : ℕ → ℕ) → ((j : ℕ) → j < 64 → level_numbered g.P.Pixel.level l.run (64 + j) ≤ h (along l.forward l.start j)) → ((i : ℕ) → i < length l.initial.samples → level_numbered g.P.Pixel.level l.initial.samples i ≤ h i) → (i : ℕ) → i < length l.initial.samples → level_numbered g.P.Pixel.level l.samples i ≤ h i;
}
