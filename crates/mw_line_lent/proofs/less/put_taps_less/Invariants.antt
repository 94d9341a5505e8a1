use Rattle.std.proofs.Common.{ℕ, ◌+◌, ◌-◌, ◌<◌, ◌≤◌, get_or}
use Rattle.mw_line_lent.specs.Bests.{IsBest}
use Rattle.mw_line_lent.specs.Boxes.{IsPutAt}
use Rattle.mw_line_lent.specs.Differences.{IsBestLess}
use Rattle.mw_line_lent.proofs.less.put_taps_less.Given as goal

abbrev pub invariant-by_vector : goal.invariant-by_vector
invariant-by_vector g l = record {
  within : l.done ≤ l.n;
  put : IsPutAt l.at l.n l.initial.out l.out;
  made : (value other : ℕ → g.row.P.Denot) (i : ℕ) (d e : g.row.P.Denot) → i < l.done
      → ((j : ℕ) → j < l.n + l.taps.last → IsBest g.U.Extremum.merge value j (j + l.taps.step) (get_or l.lines.uppers.now (l.taps.from + j) d))
      → ((j : ℕ) → j < l.n + l.taps.last → IsBest g.L.Extremum.merge other j (j + l.taps.step) (get_or l.lines.lowers.now (l.taps.from + j) e))
      → IsBestLess g.P.Pixel.level g.U.Extremum.merge value g.L.Extremum.merge other i (i + (l.taps.last + l.taps.step)) (get_or l.out (l.at + i) d);
}

abbrev pub decreases-by_vector : goal.decreases-by_vector
decreases-by_vector g l = l.n - l.done
