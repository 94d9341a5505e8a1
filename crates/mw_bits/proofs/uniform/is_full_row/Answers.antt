use Rattle.std.proofs.Common.{◌/◌, refl, arith}
use Rattle.mw_bits.proofs.UniformWords.{full_row, full_front}
use Rattle.mw_bits.proofs.uniform.is_full_row.Goals as goal

pub returns-else-rest-eq0 : goal.returns-else-rest-eq0
returns-else-rest-eq0 c = λ yes x lt.
    let width = c.args.width in
    full_row c.args.row.now width (width / 64) x refl (full_front c.args.row.now (width / 64) (omega (arith, c.requires)) (c.are_full.ensures c.if-not-are_full.false))
    (λ some i less. c.has_lowest.ensures yes i less) lt
