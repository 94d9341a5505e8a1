use Rattle.std.proofs.Common.{◌≡◌, ℕ, ◌+◌, ◌*◌, ◌<◌, ◌≤◌, length, get_or}
use Rattle.mw_line.proofs.pairs.merge_blocks.Given as goal

abbrev pub invariant-loop-i : goal.invariant-loop-i
invariant-loop-i g l = record {
  size : length l.out ≡ length l.fn.out;
  done : (q : ℕ) (d e : g.row.P.Denot) → q < l.i * 64 → get_or l.out q d ≡ g.E.Extremum.merge (get_or l.fn.out q d) (g.E.Extremum.merge (get_or l.cells (l.from + q) e) (get_or l.cells (l.from + q + l.shift) e));
  rest : (q : ℕ) (d : g.row.P.Denot) → l.i * 64 ≤ q → get_or l.out q d ≡ get_or l.fn.out q d;
}
