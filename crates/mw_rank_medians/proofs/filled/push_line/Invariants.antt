use Rattle.mw_model.specs.Windows.{seen_at}
use Rattle.mw_rank.specs.Ranks.{GainsRow}
use Rattle.mw_rank_medians.specs.Filled.{filled_at, line_x, line_y}
use Rattle.mw_rank_medians.proofs.filled.push_line.Given as goal

abbrev pub invariant-loop-i : goal.invariant-loop-i
invariant-loop-i g l =
    GainsRow g.P.Pixel.level (λ i. filled_at g.P.Pixel.level g.P.Pixel.top_level (seen_at l.window) l.offset (line_x l.lines.down l.lines.x i l.line) (line_y l.lines.down l.lines.y i l.line)) l.i l.initial.out.items l.out.items
