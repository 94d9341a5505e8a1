use Rattle.std.proofs.Common.{◌≡◌, ℕ, ◌+◌, ◌-◌, ◌<◌, ◌≤◌, get_or}
use Rattle.mw_line_lent.specs.Boxes.{IsPutAt}
use Rattle.mw_line_lent.proofs.sheets.put_between.Given as goal

abbrev pub invariant-by_vector : goal.invariant-by_vector
invariant-by_vector g l = record {
  within : l.done ≤ l.n;
  put : IsPutAt (l.at + l.n) l.n l.initial.sheet l.sheet;
  made : (i : ℕ) (d : g.row.P.Denot) → i < l.done → get_or l.sheet (l.at + l.n + i) d ≡ g.E.Extremum.merge (get_or l.initial.sheet (l.at + i) d) (get_or l.row.samples.now (l.row.from + i) d);
  line_put : IsPutAt l.to l.n l.initial.out l.out;
  line : (i : ℕ) (d : g.row.P.Denot) → i < l.done → get_or l.out (l.to + i) d ≡ g.E.Extremum.merge (get_or l.initial.sheet (l.at + i) d) (get_or l.initial.sheet (l.at + l.n + l.n + i) d);
}

abbrev pub decreases-by_vector : goal.decreases-by_vector
decreases-by_vector g l = l.n - l.done
