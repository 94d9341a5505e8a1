use Rattle.std.proofs.Common.{ℕ, ◌/◌, length, map, ap, arith, ◌∙◌}
use Rattle.std.proofs.lemmas.List.{get_or-map}
use Rattle.mw_offset.proofs.mw_line.Rows.{rows_fit}
use Rattle.mw_bits.proofs.NarrowRows.{narrow_same, level_tested}
use Rattle.mw_bits.proofs.compared.compare_few.Goals as goal

pub returns : goal.returns
returns g c = λ q lt.
    let f : g.row.P.Denot → ℕ = λ (s : g.row.P.Denot). g.T.LevelTest.is_in c.args.k (g.P.Pixel.level s) in
    let test : ℕ → ℕ = λ (s : ℕ). g.T.LevelTest.is_in c.args.k s in
    let samples = c.args.samples.now in
    let levels = c.padded-levels.result in
    let fits = rows_fit (q / 64) (length c.args.out.now) c.args.width (omega arith) in
    c.compare_narrow.ensures q lt
    ∙ narrow_same (map test levels) (map f samples) c.args.width q (length samples) (omega (arith, fits, c.requires.within))
    (λ i less. get_or-map test levels i 0 0 (omega arith) ∙ ap test (c.padded-levels.ensures i less) ∙ level_tested test g.P.Pixel.level samples i less)
