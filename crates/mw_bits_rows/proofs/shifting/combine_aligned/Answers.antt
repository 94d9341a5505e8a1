use Rattle.std.proofs.Common.{◌*◌, ◌+◌, ◌/◌, ◌%◌, get_or, ap, sym, arith, ◌∙◌}
use Rattle.std.specs.Int.{bit_at}
use Rattle.mw_line.specs.mw_pixel_words.Packed.{bit_of}
use Rattle.mw_line.proofs.mw_pixel_words.Done.{words_more}
use Rattle.mw_line.proofs.mw_pixel_words.Funnels.{IsFunnel}
use Rattle.mw_bits_rows.proofs.FunnelPairs.{IsMerged, funnel_merged}
use Rattle.mw_bits_rows.proofs.shifting.combine_aligned.Goals as goal

pub loop-i-preserved : goal.loop-i-preserved
loop-i-preserved g c =
    let f = g.E.Extremum.merge in
    let cells = c.args.cells.now in
    let start = c.args.start in
    let other = c.args.other in
    let i = c.loop-i.i in
    let low = c.combine_words-low.result in
    let high = c.combine_words-high.result in
    let low-is : IsMerged f (get_or cells (start / 64 + i) 0) (get_or cells (other / 64 + i) 0) low = record { bits = c.combine_words-low.ensures } in
    let high-is : IsMerged f (get_or cells (start / 64 + i + 1) 0) (get_or cells (other / 64 + i + 1) 0) high = record { bits = c.combine_words-high.ensures } in
    let funnel : IsFunnel low high (start % 64) c.funnel.result = record { below = c.funnel.ensures.below; above = c.funnel.ensures.above } in
    words_more (λ best q. f (f best (bit_of cells (start + q))) (bit_of cells (other + q))) i c.args.out.now c.loop-i.out c.combine_words.result (omega arith)
    (λ b lt.
    let best = bit_at (get_or c.loop-i.out i 0) b in
    c.combine_words.ensures b lt
    ∙ ap (f best) (funnel_merged f cells start other low high c.funnel.result i c.requires.aligned low-is high-is funnel b lt)
    ∙ sym (g.met.E.Extremum.associates best (bit_of cells (start + (64 * i + b))) (bit_of cells (other + (64 * i + b)))))
    c.loop-i.invariant
