use Rattle.std.proofs.Common.{cond, nat_lt}
use Rattle.mw_line.specs.mw_pixel_words.Packed.{stride_of}
use Rattle.mw_line.proofs.mw_pixel_words.Done.{BitRowsDone}
use Rattle.mw_bits_rows.proofs.margins.fill_margins.Given as goal

abbrev pub invariant-loop-y : goal.invariant-loop-y
invariant-loop-y g l = BitRowsDone (λ best x j. cond (nat_lt x l.width) best (g.E.Extremum.neutral_of 1)) (stride_of l.width) l.high l.y l.fn.rows l.rows
