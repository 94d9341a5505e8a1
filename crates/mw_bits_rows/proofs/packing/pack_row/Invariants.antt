use Rattle.std.proofs.Common.{get_or}
use Rattle.mw_line.proofs.mw_pixel_words.Done.{WordsDone}
use Rattle.mw_bits_rows.proofs.packing.pack_row.Given as goal

abbrev pub invariant-loop-k : goal.invariant-loop-k
invariant-loop-k l = WordsDone (λ old x. get_or l.row x 0) l.k l.fn.out l.out
