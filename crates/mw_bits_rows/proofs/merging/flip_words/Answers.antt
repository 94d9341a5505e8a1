use Rattle.std.proofs.Common.{◌-◌, get_or, w64, arith}
use Rattle.std.specs.Int.{bit_not}
use Rattle.std.proofs.lemmas.Nat.Bits.{bit_at_not}
use Rattle.mw_line.proofs.mw_pixel_words.Done.{words_more}
use Rattle.mw_bits_rows.proofs.merging.flip_words.Goals as goal

pub loop-i-preserved : goal.loop-i-preserved
loop-i-preserved c =
    let i = c.loop-i.i in
    words_more (λ bit q. 1 - bit) i c.args.words.now c.loop-i.words (bit_not w64 (get_or c.loop-i.words i 0)) (omega arith)
    (λ b lt. bit_at_not w64 (get_or c.loop-i.words i 0) b (omega arith) lt) c.loop-i.invariant
