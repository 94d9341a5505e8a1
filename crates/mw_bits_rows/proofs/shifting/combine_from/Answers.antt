use Rattle.std.proofs.Common.{◌+◌, ◌/◌, ◌%◌, get_or, ap, arith, refl, ◌∙◌}
use Rattle.mw_line.specs.mw_pixel_words.Packed.{bit_of}
use Rattle.mw_line.proofs.mw_pixel_words.Done.{words_more}
use Rattle.mw_line.proofs.mw_pixel_words.Funnels.{IsFunnel, funnel_at}
use Rattle.mw_bits_rows.proofs.shifting.combine_from.Goals as goal

pub loop-i-preserved : goal.loop-i-preserved
loop-i-preserved g c =
    let f = g.E.Extremum.merge in
    let cells = c.args.cells.now in
    let start = c.args.start in
    let i = c.loop-i.i in
    let ahead = c.funnel-ahead.result in
    let funnel : IsFunnel (get_or cells (start / 64 + i) 0) (get_or cells (start / 64 + i + 1) 0) (start % 64) ahead = record { below = c.funnel-ahead.ensures.below; above = c.funnel-ahead.ensures.above } in
    words_more (λ best q. f best (bit_of cells (start + q))) i c.args.out.now c.loop-i.out c.combine_words.result (omega arith)
    (λ b lt. c.combine_words.ensures b lt ∙ ap (f _) (funnel_at cells start _ _ ahead i refl refl funnel b lt)) c.loop-i.invariant
