use Rattle.std.proofs.Common.{◌+◌, ◌-◌, ◌*◌, ◌/◌, ◌^◌, arith, ◌∙◌}
use Rattle.std.specs.Int.{bit_at}
use Rattle.std.proofs.lemmas.Nat.{and_le_r}
use Rattle.mw_bits_rows.proofs.Packs.{bit_of_byte, parts_more}
use Rattle.mw_bits_rows.proofs.unpacking.unpack_word.Goals as goal

pub overflow_cast-byte : goal.overflow_cast-byte
overflow_cast-byte c = record { fits = omega (arith, and_le_r (c.args.word / 2 ^ (8 * c.loop-j.j)) 255) }

pub loop-j-preserved : goal.loop-j-preserved
loop-j-preserved c =
    let j = c.loop-j.j in
    λ i lt. parts_more (bit_at c.args.word) (8 * j) 8 (8 * j + 8 - 8 * j) c.loop-j.out c.unpack_byte.new.out (omega arith) (omega arith) (omega arith) c.loop-j.invariant
    (λ b less. c.unpack_byte.ensures b less ∙ bit_of_byte c.args.word j b less) i (omega arith)
