use Rattle.std.proofs.Common.{◌≡◌, ◌+◌, ◌-◌, ◌*◌, ◌/◌, ◌%◌, ℕ, length, map, get_or, ap, subst, arith, ◌∙◌}
use Rattle.mw_offset.proofs.mw_pixel_words.Done.{WordsDone, words_more}
use Rattle.mw_bits.proofs.LevelRows.{block_tested}
use Rattle.mw_bits.proofs.compared.compare_row.Goals as goal

pub loop-i-preserved : goal.loop-i-preserved
loop-i-preserved g c =
    let f : g.row.P.Denot → ℕ = λ (s : g.row.P.Denot). g.T.LevelTest.is_in c.args.k (g.P.Pixel.level s) in
    let row = c.args.row.now in
    let at = 64 * c.loop-i.i in
    words_more (λ old x. get_or (map f row) x 0) c.loop-i.i c.args.out.now c.loop-i.out c.of_block.result (omega arith)
    (λ i lt. c.of_block.ensures i lt ∙ block_tested f row at (at + 64 - at) i (omega arith)) c.loop-i.invariant

pub returns-then-rest-gt0 : goal.returns-then-rest-gt0
returns-then-rest-gt0 g c =
    let f : g.row.P.Denot → ℕ = λ (s : g.row.P.Denot). g.T.LevelTest.is_in c.args.k (g.P.Pixel.level s) in
    let row = c.args.row.now in
    let whole = length row / 64 in
    let value : ℕ → ℕ → ℕ = λ (old x : ℕ). get_or (map f row) x 0 in
    let reached : c.loop-i.i ≡ whole = omega arith in
    let before : WordsDone value whole c.args.out.now c.loop-i.out = subst (λ (t : ℕ). WordsDone value t c.args.out.now c.loop-i.out) reached c.loop-i.invariant in
    let size = before.size in
    let after = words_more value whole c.args.out.now c.loop-i.out c.last_word.result (omega (arith, c.requires.room, size))
    (λ b lt. let at : length row - length row % 64 + b ≡ 64 * whole + b = omega arith in c.last_word.ensures b lt ∙ ap (λ (t : ℕ). get_or (map f row) t 0) at) before in
    λ x lt. after.done x (omega (arith, c.requires.room))
