use Rattle.std.proofs.Common.{get_or, arith}
use Rattle.mw_line.proofs.mw_pixel_words.Done.{words_more}
use Rattle.mw_bits_rows.proofs.packing.pack_row.Goals as goal

pub loop-k-preserved : goal.loop-k-preserved
loop-k-preserved c = words_more (λ old x. get_or c.args.row.now x 0) c.loop-k.k c.args.out.now c.loop-k.out c.pack_from.result (omega arith) c.pack_from.ensures c.loop-k.invariant
