use Rattle.std.proofs.Common.{cond, nat_lt}
use Rattle.mw_pixel_words.specs.Packed.{stride_of}
use Rattle.mw_pixel_words.proofs.Done.{BitRowsDone}
use Rattle.mw_pixel_words.proofs.trimming.trim_rows.Given as goal

abbrev pub invariant-loop-y : goal.invariant-loop-y
invariant-loop-y l = BitRowsDone (λ best x j. cond (nat_lt x l.width) best 0) (stride_of l.width) l.high l.y l.fn.out l.out
