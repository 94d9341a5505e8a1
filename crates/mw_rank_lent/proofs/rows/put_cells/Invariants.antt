use Rattle.std.proofs.Common.{◌≡◌, ℕ, ◌+◌, ◌*◌, ◌<◌, length, get_or}
use Rattle.mw_rank_lent.proofs.rows.put_cells.Given as goal

abbrev pub invariant-loop-i : goal.invariant-loop-i
invariant-loop-i g l = record {
  size : length l.out ≡ length l.initial.out;
  kept : (p : ℕ) (d : _) → p < l.at → get_or l.out p d ≡ get_or l.initial.out p d;
  cells : (j : ℕ) → j < l.i → get_or l.out (l.at + j) g.P.Pixel.TOP ≡ get_or l.made (j * l.rows + l.row) g.P.Pixel.TOP;
}
