use Rattle.std.proofs.Common.{◌≡◌, ℕ, ◌+◌, ◌*◌, ◌<◌, length, get_or}
use Rattle.mw_model.specs.Windows.{seen_at}
use Rattle.mw_rank_medians.specs.Filled.{filled_at}
use Rattle.mw_rank_lent.specs.Lines.{AreSeen}
use Rattle.mw_rank_lent.proofs.columns.put_lines.Given as goal

abbrev pub invariant-loop-q : goal.invariant-loop-q
invariant-loop-q g l =
    let level = g.P.Pixel.level in
    let top = g.P.Pixel.top_level in
    record {
      size : length l.lines ≡ l.columns.count * l.columns.long;
      cells : (i j : ℕ) → i < l.columns.long → j < l.q → level (get_or l.lines (j * l.columns.long + i) g.P.Pixel.TOP) ≡ filled_at level top (seen_at l.lent) l.fn.square.first (l.columns.x + j) (l.columns.y + i);
      seen : AreSeen level top l.lent l.fn.square.first l.columns.x l.columns.y l.columns.long l.q;
    }
