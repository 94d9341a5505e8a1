use Rattle.std.proofs.Common.{◌≡◌, ℕ, ◌+◌, ◌*◌, ◌<◌, length, get_or}
use Rattle.mw_rank_lent.specs.Middles.{median_at}
use Rattle.mw_rank_lent.proofs.sides.put_medians.Given as goal

abbrev pub invariant-loop-e : goal.invariant-loop-e
invariant-loop-e g l = record {
  size : length l.made ≡ l.square.reach * l.fn.side.rows;
  cells : (i j : ℕ) → i < l.fn.side.rows → j < l.e → g.P.Pixel.level (get_or l.made (j * l.fn.side.rows + i) g.P.Pixel.TOP) ≡ median_at g.P.Pixel.level l.lent l.square (l.fn.side.x + j) (l.fn.side.y + i);
}
