use Rattle.std.proofs.Common.{ℕ, List, ◌+◌, ◌-◌, ◌*◌, get_or, refl, ap, arith, ◌∙◌}
use Rattle.std.specs.Int.{bit_at}
use Rattle.mw_bits_rows.proofs.Packs.{parts_more}
use Rattle.mw_c_arrays.proofs.ByteTables.{table_pixels}
use Rattle.mw_c_arrays.proofs.unpacking.put_word.Goals as goal

pub loop-j-preserved : goal.loop-j-preserved
loop-j-preserved c =
    let j = c.loop-j.j in
    let byte = c.byte_of-at.result in
    let at = 8 * byte in
    let made = c.copy_from_slice.new.self in
    λ i lt. parts_more (bit_at c.args.word) (8 * j) 8 (8 * j + 8 - 8 * j) c.loop-j.out made (omega arith) (omega arith) (omega arith) c.loop-j.invariant
    (λ b less.
    ap (λ (t : List ℕ). get_or t b 0) c.copy_from_slice.ensures.after
    ∙ table_pixels c.args.table.now byte at (at + 8 - at) b c.requires.table c.byte_of-at.ensures.small refl (omega arith) less
    ∙ c.byte_of-at.ensures.bits b less) i (omega arith)
