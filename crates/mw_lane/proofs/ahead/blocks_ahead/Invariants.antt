use Rattle.std.proofs.Common.{◌≡◌, ℕ, ◌+◌, ◌*◌, ◌<◌, ◌≤◌, length, get_or}
use Rattle.mw_lane.proofs.ahead.blocks_ahead.Given as goal

abbrev pub invariant-loop-i : goal.invariant-loop-i
invariant-loop-i g l = record {
  size : length l.row ≡ length l.fn.row;
  done : (p : ℕ) (d : g.row.P.Denot) → p < l.i * 64 → get_or l.row p d ≡ g.E.Extremum.merge (get_or l.fn.row p d) (get_or l.fn.row (p + l.shift) d);
  rest : (p : ℕ) (d : g.row.P.Denot) → l.i * 64 ≤ p → get_or l.row p d ≡ get_or l.fn.row p d;
}
