use Rattle.std.proofs.Common.{◌/◌, ◌%◌, ◌^◌, ◌≢◌, bit_and, arith, below_more, ◌∙◌}
use Rattle.std.proofs.Math.ListN.{length-set}
use Rattle.std.proofs.lemmas.List.{get_or-set_same, get_or-set_other}
use Rattle.std.proofs.lemmas.Nat.{and_le_r}
use Rattle.std.proofs.lemmas.Nat.Bits.{shr_and_one}
use Rattle.mw_c_arrays.proofs.unpacking.table.Goals as goal

pub overflow_cast-pixels : goal.overflow_cast-pixels
overflow_cast-pixels c = record { fits = omega (arith, and_le_r (c.loop-k.k / 8 / 2 ^ (c.loop-k.k % 8)) 1) }

pub loop-k-preserved : goal.loop-k-preserved
loop-k-preserved c =
    let k = c.loop-k.k in
    let pixels = c.loop-k.pixels in
    let v = bit_and (k / 8 / 2 ^ (k % 8)) 1 in
    let size = c.loop-k.invariant.size in
    record {
      size = length-set pixels k v ∙ size;
      bits = below_more _ _
          (λ j lt. let other : j ≢ k = omega arith in get_or-set_other pixels k j v 0 other ∙ c.loop-k.invariant.bits j lt)
          (get_or-set_same pixels k v 0 (omega arith) ∙ shr_and_one (k / 8) (k % 8));
    }
