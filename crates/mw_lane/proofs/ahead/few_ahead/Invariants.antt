use Rattle.std.proofs.Common.{◌≡◌, ℕ, ◌+◌, ◌-◌, ◌<◌, ◌≤◌, length, get_or}
use Rattle.mw_lane.proofs.ahead.few_ahead.Given as goal

abbrev pub invariant-by_one : goal.invariant-by_one
invariant-by_one g l = record {
  within : l.at ≤ l.n;
  size : length l.row ≡ length l.fn.row;
  done : (p : ℕ) (d : g.row.P.Denot) → p < l.at → get_or l.row p d ≡ g.E.Extremum.merge (get_or l.fn.row p d) (get_or l.fn.row (p + l.shift) d);
  rest : (p : ℕ) (d : g.row.P.Denot) → l.at ≤ p → get_or l.row p d ≡ get_or l.fn.row p d;
}

abbrev pub decreases-by_one : goal.decreases-by_one
decreases-by_one g l = l.n - l.at
