use Rattle.std.proofs.Common.{get_or, arith}
use Rattle.mw_c_arrays.specs.Arrays.{pixels_in_bytes}
use Rattle.mw_pixel.proofs.mw_pixel_words.Done.{words_more}
use Rattle.mw_c_arrays.proofs.packing.pack_row.Goals as goal

pub loop-k-preserved : goal.loop-k-preserved
loop-k-preserved c = words_more (λ old x. get_or (pixels_in_bytes c.args.bytes.now) x 0) c.loop-k.k c.args.out.now c.loop-k.out c.word_from.result (omega arith) c.word_from.ensures c.loop-k.invariant
