use Rattle.mw_line.specs.mw_pixel_words.Packed.{bit_of}
use Rattle.mw_line.proofs.mw_pixel_words.Done.{WordsDone}
use Rattle.mw_bits_rows.proofs.merging.merge_words.Given as goal

abbrev pub invariant-loop-i : goal.invariant-loop-i
invariant-loop-i g l = WordsDone (λ first q. g.O.PairOfWords.of_two first (bit_of l.other q)) l.i l.fn.words l.words
