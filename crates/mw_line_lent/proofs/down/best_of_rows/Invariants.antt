use Rattle.std.proofs.Common.{ℕ, ◌+◌, ◌*◌, ◌<◌, ◌≤◌, get_or}
use Rattle.mw_line_lent.specs.Bests.{IsBest}
use Rattle.mw_line_lent.proofs.down.best_of_rows.Given as goal

abbrev pub invariant-loop-row : goal.invariant-loop-row
invariant-loop-row g l = record {
  some : 1 ≤ l.row;
  within : l.row ≤ l.rows.count;
  made : (i : ℕ) (d : g.row.P.Denot) → i < g.P.Laned.WIDTH
      → IsBest g.E.Extremum.merge (λ j. g.E.Extremum.merge l.fn.neutral (get_or l.rows.samples.now (l.rows.from + j * l.rows.stride + (l.at + i)) d)) 0 l.row (g.P.Laned.lane l.best i);
}
