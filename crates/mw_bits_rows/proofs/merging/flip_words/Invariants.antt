use Rattle.std.proofs.Common.{◌-◌}
use Rattle.mw_line.proofs.mw_pixel_words.Done.{WordsDone}
use Rattle.mw_bits_rows.proofs.merging.flip_words.Given as goal

abbrev pub invariant-loop-i : goal.invariant-loop-i
invariant-loop-i l = WordsDone (λ bit q. 1 - bit) l.i l.fn.words l.words
