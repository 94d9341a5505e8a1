use Rattle.mw_model.specs.Windows.{seen_at}
use Rattle.mw_rank.specs.Ranks.{HasRows}
use Rattle.mw_rank_medians.specs.Filled.{filled_at, line_x, line_y}
use Rattle.mw_rank_medians.proofs.filled.filled_lines.Given as goal

abbrev pub invariant-loop-line : goal.invariant-loop-line
invariant-loop-line g l =
    HasRows g.P.Pixel.level (λ i r. filled_at g.P.Pixel.level g.P.Pixel.top_level (seen_at l.window) l.offset (line_x l.lines.down l.lines.x i r) (line_y l.lines.down l.lines.y i r)) l.lines.length l.line l.out.items
