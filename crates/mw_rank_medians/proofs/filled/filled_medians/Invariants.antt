use Rattle.std.proofs.Common.{◌≡◌, length}
use Rattle.mw_model.specs.Windows.{seen_at}
use Rattle.mw_rank.specs.Ranks.{HasRows}
use Rattle.mw_rank_medians.specs.Filled.{filled_rank, line_x, line_y}
use Rattle.mw_rank_medians.proofs.filled.filled_medians.Given as goal

abbrev pub invariant-loop-line : goal.invariant-loop-line
invariant-loop-line g l = record {
  whole : length l.medians ≡ l.fn.lines.length;
  rows : HasRows g.P.Pixel.level (λ i r. filled_rank g.P.Pixel.level g.P.Pixel.top_level (seen_at l.window) l.fn.first l.side l.k (line_x l.fn.lines.down l.fn.lines.x i r) (line_y l.fn.lines.down l.fn.lines.y i r)) l.fn.lines.length l.line l.out.items;
}
