use Rattle.std.proofs.Common.{◌+◌, ◌/◌, ◌%◌, get_or, ap, arith, ◌∙◌}
use Rattle.mw_line.specs.mw_pixel_words.Packed.{bit_of}
use Rattle.mw_line.proofs.mw_pixel_words.Done.{words_more}
use Rattle.mw_line.proofs.mw_pixel_words.Funnels.{IsFunnel, funnel_at}
use Rattle.mw_bits_rows.proofs.shifting.combine_ahead.Goals as goal

pub loop-i-preserved : goal.loop-i-preserved
loop-i-preserved g c =
    let f = g.E.Extremum.merge in
    let old = c.args.cells.now in
    let cells = c.loop-i.cells in
    let shift = c.args.shift in
    let i = c.loop-i.i in
    let ahead = c.funnel-ahead.result in
    let funnel : IsFunnel (get_or cells (shift / 64 + i) 0) (get_or cells (shift / 64 + i + 1) 0) (shift % 64) ahead = record { below = c.funnel-ahead.ensures.below; above = c.funnel-ahead.ensures.above } in
    words_more (λ best q. f best (bit_of old (shift + q))) i old cells c.combine_words.result (omega arith)
    (λ b lt. c.combine_words.ensures b lt ∙ ap (f _) (funnel_at old shift _ _ ahead i (c.loop-i.invariant.rest (shift / 64 + i) (omega arith)) (c.loop-i.invariant.rest (shift / 64 + i + 1) (omega arith)) funnel b lt)) c.loop-i.invariant
