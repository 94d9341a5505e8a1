use Rattle.std.proofs.Common.{◌+◌, ◌*◌}
use Rattle.mw_pixel_words.specs.Packed.{bit_of}
use Rattle.mw_pixel_words.proofs.Done.{BitRowsDone}
use Rattle.mw_pixel_words.proofs.trimming.copy_rows.Given as goal

abbrev pub invariant-loop-y : goal.invariant-loop-y
invariant-loop-y l = BitRowsDone (λ best x j. bit_of l.cells (j * (64 * l.wide) + x)) l.stride l.high l.y l.fn.out l.out
