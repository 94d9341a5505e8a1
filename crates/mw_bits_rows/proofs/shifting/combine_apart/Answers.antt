use Rattle.std.proofs.Common.{ℕ, ◌+◌, ◌/◌, ◌%◌, get_or, ap, arith, refl, ◌∙◌}
use Rattle.std.specs.Int.{bit_at}
use Rattle.mw_line.specs.mw_pixel_words.Packed.{bit_of}
use Rattle.mw_line.proofs.mw_pixel_words.Done.{words_more}
use Rattle.mw_line.proofs.mw_pixel_words.Funnels.{IsFunnel, funnel_at}
use Rattle.mw_bits_rows.proofs.shifting.combine_apart.Goals as goal

pub loop-i-preserved : goal.loop-i-preserved
loop-i-preserved g c =
    let f = g.E.Extremum.merge in
    let cells = c.args.cells.now in
    let start = c.args.start in
    let other = c.args.other in
    let i = c.loop-i.i in
    let near = c.funnel-near.result in
    let far = c.funnel-far.result in
    let first : IsFunnel (get_or cells (start / 64 + i) 0) (get_or cells (start / 64 + i + 1) 0) (start % 64) near = record { below = c.funnel-near.ensures.below; above = c.funnel-near.ensures.above } in
    let second : IsFunnel (get_or cells (other / 64 + i) 0) (get_or cells (other / 64 + i + 1) 0) (other % 64) far = record { below = c.funnel-far.ensures.below; above = c.funnel-far.ensures.above } in
    words_more (λ best q. f (f best (bit_of cells (start + q))) (bit_of cells (other + q))) i c.args.out.now c.loop-i.out c.combine_words.result (omega arith)
    (λ b lt. c.combine_words.ensures b lt
    ∙ ap (λ (t : ℕ). f t (bit_at far b)) (c.combine_words-best.ensures b lt ∙ ap (f _) (funnel_at cells start _ _ near i refl refl first b lt))
    ∙ ap (f _) (funnel_at cells other _ _ far i refl refl second b lt)) c.loop-i.invariant
