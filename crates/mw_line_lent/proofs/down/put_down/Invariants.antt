use Rattle.std.proofs.Common.{ℕ, ◌+◌, ◌-◌, ◌*◌, ◌<◌, ◌≤◌, get_or}
use Rattle.mw_line_lent.specs.Bests.{IsBest}
use Rattle.mw_line_lent.specs.Boxes.{IsPutAt}
use Rattle.mw_line_lent.proofs.down.put_down.Given as goal

abbrev pub invariant-by_vector : goal.invariant-by_vector
invariant-by_vector g l = record {
  within : l.done ≤ l.n;
  put : IsPutAt l.at l.n l.initial.out l.out;
  made : (i : ℕ) (d : g.row.P.Denot) → i < l.done
      → IsBest g.E.Extremum.merge (λ j. g.E.Extremum.merge l.neutral (get_or l.rows.samples.now (l.rows.from + j * l.rows.stride + i) d)) 0 l.rows.count (get_or l.out (l.at + i) d);
}

abbrev pub decreases-by_vector : goal.decreases-by_vector
decreases-by_vector g l = l.n - l.done
