use Rattle.std.proofs.Common.{ℕ, ◌≡◌, ◌+◌, ◌*◌, ◌<◌, length, get_or}
use Rattle.mw_rank_rows.proofs.bands.put_block.Given as goal

abbrev pub invariant-loop-j : goal.invariant-loop-j
invariant-loop-j g l = record {
  size : length l.out ≡ length l.initial.out;
  put : (x k : ℕ) (d : g.row.P.Denot) → x < l.columns → k < l.j → get_or l.out (k * l.width + (l.from + x)) d ≡ get_or l.block (k * l.columns + x) d;
  others : (x k : ℕ) (d : g.row.P.Denot) → x < l.from → get_or l.out (k * l.width + x) d ≡ get_or l.initial.out (k * l.width + x) d;
}
