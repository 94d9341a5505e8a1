use Rattle.std.proofs.Common.{◌-◌, ℕ, length, arith}
use Rattle.mw_bits.proofs.LevelRows.{end_tested}
use Rattle.mw_bits.proofs.compared.last_word.Goals as goal

pub returns : goal.returns
returns g c =
    let f : g.row.P.Denot → ℕ = λ (s : g.row.P.Denot). g.T.LevelTest.is_in c.args.k (g.P.Pixel.level s) in
    let row = c.args.row.now in
    let last = length row - 64 in
    end_tested f row c.of_block.result last (length row - last) (length row - c.args.rest) (64 - c.args.rest) (omega arith) (omega arith) (omega arith) (omega arith) c.of_block.ensures
