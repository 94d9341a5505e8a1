use Rattle.std.proofs.Common.{◌+◌}
use Rattle.mw_line.specs.mw_pixel_words.Packed.{bit_of}
use Rattle.mw_line.proofs.mw_pixel_words.Done.{WordsDone}
use Rattle.mw_bits_rows.proofs.shifting.combine_apart.Given as goal

abbrev pub invariant-loop-i : goal.invariant-loop-i
invariant-loop-i g l =
    let f = g.E.Extremum.merge in
    WordsDone (λ best q. f (f best (bit_of l.cells (l.start + q))) (bit_of l.cells (l.other + q))) l.i l.fn.out l.out
