use Rattle.std.proofs.Common.{◌<◌, ◌∙◌, List, ap, sym, arith}
use Rattle.mw_model.specs.PlanSteps.{ranked}
use Rattle.mw_model.specs.Windows.{seen_at}
use Rattle.mw_model.specs.declared.offsets.Offset.{Offset}
use Rattle.mw_rank.specs.Ranks.{levels_under}
use Rattle.mw_rank_medians.specs.Filled.{filled_rank}
use Rattle.mw_rank_medians.specs.Squares.{offset_rows}
use Rattle.mw_rank_medians.proofs.Beyond.{rank_filled}
use Rattle.mw_rank_medians.proofs.tiles.checked.Goals as goal

pub returns-then-value : goal.returns-then-value
returns-then-value g c =
    let level = g.P.Pixel.level in
    let top = g.P.Pixel.top_level in
    let wanted = c.args.wanted in
    let sight = seen_at wanted.window.now in
    let below : level c.args.filled < top = omega (arith, c.if-value.true, c.value.ensures.level, c.value-2.ensures.level, ap level c.TOP.ensures, g.met.P.Pixel.top_is_top) in
    let is = c.requires.filled below in
    let low : filled_rank level top sight wanted.first wanted.side wanted.k c.args.x c.args.y < top = omega (arith, below, is) in
    is
    ∙ rank_filled level top sight (offset_rows wanted.first wanted.side wanted.side) c.args.x c.args.y wanted.k low
    ∙ ap (λ (l : List Offset). ranked wanted.k (levels_under level sight l c.args.x c.args.y)) (sym c.requires.square)
