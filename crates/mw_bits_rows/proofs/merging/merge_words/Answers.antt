use Rattle.std.proofs.Common.{◌+◌, ◌*◌, ap, sym, arith, refl, ◌∙◌}
use Rattle.mw_line.specs.mw_pixel_words.Packed.{bit_of}
use Rattle.mw_line.proofs.mw_pixel_words.Bits.{bit_of_word}
use Rattle.mw_line.proofs.mw_pixel_words.Done.{words_more}
use Rattle.mw_bits_rows.proofs.merging.merge_words.Goals as goal

pub loop-i-preserved : goal.loop-i-preserved
loop-i-preserved g c =
    let f = g.O.PairOfWords.of_two in
    let i = c.loop-i.i in
    let other = c.args.other.now in
    words_more (λ first q. f first (bit_of other q)) i c.args.words.now c.loop-i.words c.of_words.result (omega arith)
    (λ b lt. c.of_words.ensures b lt ∙ ap (f _) (sym (bit_of_word other i b (64 * i + b) lt refl))) c.loop-i.invariant
