use Rattle.std.proofs.Common.{◌≢◌, arith, below_more, ◌∙◌}
use Rattle.std.proofs.lemmas.List.{get_or-set_same, get_or-set_other}
use Rattle.mw_bits_rows.proofs.Packs.{bit_tested}
use Rattle.mw_bits_rows.proofs.unpacking.unpack_byte.Goals as goal

pub loop-i-preserved : goal.loop-i-preserved
loop-i-preserved c =
    below_more _ _
    (λ k lt. let other : k ≢ c.loop-i.i = omega arith in get_or-set_other c.loop-i.out c.loop-i.i k c.new.result 0 other ∙ c.loop-i.invariant k lt)
    (get_or-set_same c.loop-i.out c.loop-i.i c.new.result 0 (omega arith) ∙ c.new.ensures ∙ bit_tested c.args.byte c.loop-i.i (omega arith))
