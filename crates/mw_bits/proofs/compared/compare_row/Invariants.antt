use Rattle.std.proofs.Common.{map, get_or}
use Rattle.mw_offset.proofs.mw_pixel_words.Done.{WordsDone}
use Rattle.mw_bits.proofs.compared.compare_row.Given as goal

abbrev pub invariant-loop-i : goal.invariant-loop-i
invariant-loop-i g l = WordsDone (λ old x. get_or (map (λ s. g.T.LevelTest.is_in l.k (g.P.Pixel.level s)) l.row) x 0) l.i l.fn.out l.out
