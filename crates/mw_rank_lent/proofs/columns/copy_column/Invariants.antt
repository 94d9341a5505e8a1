use Rattle.std.proofs.Common.{◌≡◌, ℕ, ◌+◌, ◌*◌, ◌<◌, ◌≤◌, length, get_or}
use Rattle.mw_rank_lent.proofs.columns.copy_column.Given as goal

abbrev pub invariant-loop-i : goal.invariant-loop-i
invariant-loop-i g l = record {
  size : length l.line ≡ length l.initial.line;
  cells : (j : ℕ) → j < l.i → get_or l.line j g.P.Pixel.TOP ≡ get_or l.samples (l.from + j * l.stride) g.P.Pixel.TOP;
  small : (j : ℕ) → j < l.i → g.P.Pixel.level (get_or l.line j g.P.Pixel.TOP) ≤ g.P.Pixel.top_level;
}
