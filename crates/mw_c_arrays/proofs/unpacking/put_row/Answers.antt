use Rattle.std.proofs.Common.{◌+◌, ◌-◌, ◌*◌, ◌/◌, length, arith, sym, refl, ◌∙◌}
use Rattle.mw_pixel.specs.mw_pixel_words.Packed.{bit_of}
use Rattle.mw_pixel.proofs.mw_pixel_words.Bits.{bit_of_word}
use Rattle.mw_bits_rows.proofs.Packs.{parts_more}
use Rattle.mw_c_arrays.proofs.unpacking.put_row.Goals as goal

pub loop-k-preserved : goal.loop-k-preserved
loop-k-preserved c =
    let k = c.loop-k.k in
    let words = c.args.words.now in
    λ x lt. parts_more (bit_of words) (64 * k) 64 (64 * k + 64 - 64 * k) c.loop-k.out c.put_word.new.out (omega arith) (omega arith) (omega arith) c.loop-k.invariant
    (λ b less. c.put_word.ensures b less ∙ sym (bit_of_word words k b (64 * k + b) less refl)) x (omega arith)

pub returns-then-out-gt0 : goal.returns-then-out-gt0
returns-then-out-gt0 c =
    let whole = length c.args.out.now / 64 in
    let rest = length c.loop-k.out - 64 * whole in
    let words = c.args.words.now in
    λ x lt. parts_more (bit_of words) (64 * whole) rest rest c.loop-k.out c.put_part.new.out (omega arith) refl (omega arith) (λ i less. c.loop-k.invariant i (omega arith))
    (λ b less. c.put_part.ensures b (omega arith) ∙ sym (bit_of_word words whole b (64 * whole + b) (omega arith) refl)) x (omega arith)

pub returns-else-out-gt0 : goal.returns-else-out-gt0
returns-else-out-gt0 c = λ x lt. c.loop-k.invariant x (omega arith)
