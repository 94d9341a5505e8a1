use Rattle.std.proofs.Common.{◌+◌, ◌-◌, ◌≡◌, ℕ, length, map, get_or, ap, ◌∙◌, arith}
use Rattle.mw_bits.proofs.LevelRows.{block_tested}
use Rattle.mw_bits.proofs.compared.word_from.Goals as goal

pub returns-then-rest-ge64 : goal.returns-then-rest-ge64
returns-then-rest-ge64 g c = λ i lt.
    let f : g.row.P.Denot → ℕ = λ (s : g.row.P.Denot). g.T.LevelTest.is_in c.args.k (g.P.Pixel.level s) in
    let from = c.args.from in
    c.of_block.ensures i lt ∙ block_tested f c.args.samples.now from (from + 64 - from) i (omega arith)

pub returns-else-rest-ge64 : goal.returns-else-rest-ge64
returns-else-rest-ge64 g c = λ i lt.
    let f : g.row.P.Denot → ℕ = λ (s : g.row.P.Denot). g.T.LevelTest.is_in c.args.k (g.P.Pixel.level s) in
    let samples = c.args.samples.now in
    let from = c.args.from in
    let back : length samples - (length samples - from) + i ≡ from + i = omega arith in
    c.last_word.ensures i lt ∙ ap (λ (t : ℕ). get_or (map f samples) t 0) back
