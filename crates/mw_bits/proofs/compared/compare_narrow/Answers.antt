use Rattle.std.proofs.Common.{ℕ, map, arith, ◌∙◌}
use Rattle.mw_offset.proofs.mw_pixel_words.Done.{words_more}
use Rattle.mw_bits.proofs.NarrowRows.{narrow_cell, cell_of_word}
use Rattle.mw_bits.proofs.compared.compare_narrow.Goals as goal

pub loop-y-preserved : goal.loop-y-preserved
loop-y-preserved g c =
    let f : g.row.P.Denot → ℕ = λ (s : g.row.P.Denot). g.T.LevelTest.is_in c.args.k (g.P.Pixel.level s) in
    let cells = map f c.args.samples.now in
    let y = c.loop-y.y in
    let width = c.args.width in
    words_more (λ old q. narrow_cell cells width q) y c.args.out.now c.loop-y.out c.word_of_row.result (omega arith)
    (λ b lt. c.word_of_row.ensures b lt ∙ cell_of_word cells width y b lt) c.loop-y.invariant
