use Rattle.std.proofs.Common.{ℕ, ◌+◌, ◌-◌, ◌*◌, ◌<◌, ◌≤◌, get_or}
use Rattle.mw_line_lent.specs.Bests.{IsBest}
use Rattle.mw_line_lent.proofs.across.best_of_taps.Given as goal

abbrev pub invariant-loop-tap : goal.invariant-loop-tap
invariant-loop-tap g l = record {
  some : 1 ≤ l.tap;
  within : l.tap - 1 ≤ l.taps.count - 1;
  made : (value : ℕ → g.row.P.Denot) (i : ℕ) (d : g.row.P.Denot) → i < g.P.Laned.WIDTH
      → ((j : ℕ) → j ≤ l.taps.last → IsBest g.E.Extremum.merge value (l.at + i + j) (l.at + i + j + l.taps.step) (get_or l.line (l.taps.from + (l.at + i + j)) d))
      → IsBest g.E.Extremum.merge value (l.at + i) (l.at + i + l.tap * l.taps.step) (g.P.Laned.lane l.best i);
}
