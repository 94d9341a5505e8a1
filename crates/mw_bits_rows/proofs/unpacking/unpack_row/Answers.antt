use Rattle.std.proofs.Common.{◌+◌, ◌-◌, ◌*◌, arith, sym, refl, ◌∙◌}
use Rattle.mw_line.specs.mw_pixel_words.Packed.{bit_of}
use Rattle.mw_line.proofs.mw_pixel_words.Bits.{bit_of_word}
use Rattle.mw_bits_rows.proofs.Packs.{parts_more}
use Rattle.mw_bits_rows.proofs.unpacking.unpack_row.Goals as goal

pub loop-k-preserved : goal.loop-k-preserved
loop-k-preserved c =
    let k = c.loop-k.k in
    let row = c.args.row.now in
    λ x lt. parts_more (bit_of row) (64 * k) 64 (64 * k + 64 - 64 * k) c.loop-k.out c.unpack_word.new.out (omega arith) (omega arith) (omega arith) c.loop-k.invariant
    (λ b less. c.unpack_word.ensures b less ∙ sym (bit_of_word row k b (64 * k + b) less refl)) x (omega arith)
