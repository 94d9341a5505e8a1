use Rattle.std.proofs.Common.{◌≡◌, ℤ, to_z, of_z, w32, subst, arith}
use Rattle.std.proofs.lemmas.Int.{ints}
use Rattle.mw_bits.specs.Layouts.{AreNear}
use Rattle.mw_bits.proofs.by_runs.is_near.Goals as goal

pub returns-then-are_near : goal.returns-then-are_near
returns-then-are_near c =
    let e = c.args.extent in
    let left : to_z w32 (of_z w32 e.left) ≡ e.left = omega (arith, ints) in
    let right : to_z w32 (of_z w32 e.right) ≡ e.right = omega (arith, ints) in
    let top : to_z w32 (of_z w32 e.top) ≡ e.top = omega (arith, ints) in
    let bottom : to_z w32 (of_z w32 e.bottom) ≡ e.bottom = omega (arith, ints) in
    λ down. record {
      columns = subst (λ (t : ℤ). AreNear t e.right) left (subst (λ (t : ℤ). AreNear (to_z w32 (of_z w32 e.left)) t) right (c.are_near.ensures c.if-are_near.true));
      rows = subst (λ (t : ℤ). AreNear t e.bottom) top (subst (λ (t : ℤ). AreNear (to_z w32 (of_z w32 e.top)) t) bottom (c.are_near-then-are_near.ensures down));
    }
