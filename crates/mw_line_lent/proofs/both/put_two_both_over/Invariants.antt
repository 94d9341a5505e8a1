use Rattle.std.proofs.Common.{ℕ, ◌+◌, ◌-◌, ◌*◌, ◌<◌, ◌≤◌, get_or}
use Rattle.mw_line_lent.specs.Bests.{IsBest}
use Rattle.mw_line_lent.specs.Boxes.{IsPutInRows}
use Rattle.mw_line_lent.proofs.both.put_two_both_over.Given as goal

abbrev pub invariant-by_vector : goal.invariant-by_vector
invariant-by_vector g l = record {
  within : l.done ≤ l.n;
  upper_put : IsPutInRows 2 l.lines.at l.n l.lines.wide l.initial.uppers l.uppers;
  lower_put : IsPutInRows 2 l.lines.at l.n l.lines.wide l.initial.lowers l.lowers;
  upper : (r i : ℕ) (d : g.row.P.Denot) → r < 2 → i < l.done
      → IsBest g.U.Extremum.merge (λ j. g.U.Extremum.merge l.ends.bottom (get_or l.rows.samples.now (l.rows.from + j * l.rows.stride + i) d)) r (r + l.rows.count) (get_or l.uppers (l.lines.at + r * l.lines.wide + i) d);
  lower : (r i : ℕ) (d : g.row.P.Denot) → r < 2 → i < l.done
      → IsBest g.L.Extremum.merge (λ j. g.L.Extremum.merge l.ends.top (get_or l.rows.samples.now (l.rows.from + j * l.rows.stride + i) d)) r (r + l.rows.count) (get_or l.lowers (l.lines.at + r * l.lines.wide + i) d);
}

abbrev pub decreases-by_vector : goal.decreases-by_vector
decreases-by_vector g l = l.n - l.done
