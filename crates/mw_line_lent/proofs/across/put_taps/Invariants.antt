use Rattle.std.proofs.Common.{ℕ, ◌+◌, ◌-◌, ◌<◌, ◌≤◌, get_or}
use Rattle.mw_line_lent.specs.Bests.{IsBest}
use Rattle.mw_line_lent.specs.Boxes.{IsPutAt}
use Rattle.mw_line_lent.proofs.across.put_taps.Given as goal

abbrev pub invariant-by_vector : goal.invariant-by_vector
invariant-by_vector g l = record {
  within : l.done ≤ l.n;
  put : IsPutAt l.at l.n l.initial.out l.out;
  made : (value : ℕ → g.row.P.Denot) (i : ℕ) (d : g.row.P.Denot) → i < l.done
      → ((j : ℕ) → j < l.n + l.taps.last → IsBest g.E.Extremum.merge value j (j + l.taps.step) (get_or l.line (l.taps.from + j) d))
      → IsBest g.E.Extremum.merge value i (i + (l.taps.last + l.taps.step)) (get_or l.out (l.at + i) d);
}

abbrev pub decreases-by_vector : goal.decreases-by_vector
decreases-by_vector g l = l.n - l.done
