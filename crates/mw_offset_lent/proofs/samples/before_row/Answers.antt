use Rattle.std.proofs.Common.{◌≡◌, ℕ, ℤ, ◌*◌, ◌≤◌, ◌+ℤ◌, to_z, of_z, w64, ap, arith}
use lib.IntN.{nat_abs}
use Rattle.std.proofs.lemmas.Int.{ints}
use Rattle.std.proofs.lemmas.Nat.{mul-le}
use Rattle.mw_offset_lent.proofs.samples.before_row.Goals as goal

pub returns : goal.returns
returns c = λ row row-is.
    let z : ℤ = to_z w64 (of_z w64 (to_z w64 (of_z w64 c.args.laid.row) +ℤ to_z w64 c.args.y)) in
    let q = nat_abs z in
    let width = c.args.place.width in
    let same : q ≡ row = omega (arith, ints, row-is) in
    let some : 1 * width ≤ q * width = mul-le 1 width q width (omega (arith, ints)) (omega arith) in
    omega (arith, some, ap (λ (t : ℕ). t * width) same, c.requires.across, c.requires.left)

pub overflow_sub-result : goal.overflow_sub-result
overflow_sub-result c =
    let z : ℤ = to_z w64 (of_z w64 (to_z w64 (of_z w64 c.args.laid.row) +ℤ to_z w64 c.args.y)) in
    let width = c.args.place.width in
    omega (arith, mul-le 1 width (nat_abs z) width (omega (arith, ints)) (omega arith), c.requires.across)
