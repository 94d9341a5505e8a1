use Rattle.std.proofs.Common.{get_or}
use Rattle.mw_c_arrays.specs.Arrays.{pixels_in_bytes}
use Rattle.mw_pixel.proofs.mw_pixel_words.Done.{WordsDone}
use Rattle.mw_c_arrays.proofs.packing.pack_row.Given as goal

abbrev pub invariant-loop-k : goal.invariant-loop-k
invariant-loop-k l = WordsDone (λ old x. get_or (pixels_in_bytes l.bytes) x 0) l.k l.fn.out l.out
