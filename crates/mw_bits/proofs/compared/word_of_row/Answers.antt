use Rattle.std.proofs.Common.{◌-◌, ℕ, map, ap, arith}
use Rattle.std.proofs.lemmas.Nat.{one_shl}
use Rattle.mw_bits.proofs.NarrowRows.{row_masked}
use Rattle.mw_bits.proofs.compared.word_of_row.Goals as goal

pub returns : goal.returns
returns g c =
    let f : g.row.P.Denot → ℕ = λ (s : g.row.P.Denot). g.T.LevelTest.is_in c.args.k (g.P.Pixel.level s) in
    let width = c.args.width in
    row_masked (map f c.args.samples.now) c.word_from.result _ c.args.from width (ap (λ (t : ℕ). t - 1) (one_shl width 64 (omega arith))) c.word_from.ensures
