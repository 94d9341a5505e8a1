use Rattle.mw_c_arrays.specs.Arrays.{pixels_in_bytes}
use Rattle.mw_pixel.specs.mw_pixel_words.Packed.{stride_of}
use Rattle.mw_pixel.proofs.mw_pixel_words.Done.{BitRowsDone}
use Rattle.mw_bits_rows.proofs.Packs.{packed_row}
use Rattle.mw_c_arrays.proofs.packing.pack_rows.Given as goal

abbrev pub invariant-loop-y : goal.invariant-loop-y
invariant-loop-y l = BitRowsDone (packed_row (pixels_in_bytes l.bytes) l.width) (stride_of l.width) l.height l.y l.fn.out l.out
