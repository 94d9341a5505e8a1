use Rattle.std.proofs.Common.{map}
use Rattle.mw_offset.proofs.mw_pixel_words.Done.{WordsDone}
use Rattle.mw_bits.proofs.NarrowRows.{narrow_cell}
use Rattle.mw_bits.proofs.compared.compare_narrow.Given as goal

abbrev pub invariant-loop-y : goal.invariant-loop-y
invariant-loop-y g l = WordsDone (λ old q. narrow_cell (map (λ s. g.T.LevelTest.is_in l.k (g.P.Pixel.level s)) l.samples) l.width q) l.y l.fn.out l.out
