-- Bounds of boxes, as signed numbers of 32 bits.
use Rattle.std.proofs.Common.{◌≡◌, ℕ, suc, ◌*◌, ◌≤◌, ℤ, pos, negsuc, ◌*ℤ◌, ◌≤ℤ◌, neg_ℤ, ap, sym, arith, ◌∙◌, w32, to_z, of_z, mul-le-mul_right}
use Rattle.std.proofs.lemmas.Int.{ints}
use Rattle.std.proofs.Math.IntN.{pos-*ℤ-pos, pos-*ℤ-negsuc}
use Rattle.mw_model.specs.declared.offsets.OffsetBox.{OffsetBox}
use Rattle.mw_plan.specs.Steps.{IsNearBox}

-- the number stays within the sides of an element
abbrev pub IsNear : ℤ → Type 0
IsNear z = (negsuc 253 ≤ℤ z) × (z ≤ℤ pos 254)

-- a product of a small number and a bound
fits_product : (n : ℕ) (z : ℤ) → n ≤ 32 → IsNear z → to_z w32 (of_z w32 (pos n *ℤ z)) ≡ pos n *ℤ z
fits_product n (pos m) le near =
    let e = pos-*ℤ-pos n m in
    let low = mul-le-mul_right m le in
    let small : m ≤ 254 = let h = near.1 in omega (arith, ints) in
    ap (λ (t : ℤ). to_z w32 (of_z w32 t)) e ∙ fits (n * m) (omega arith) ∙ sym e
  where
    fits : (k : ℕ) → k ≤ 8128 → to_z w32 (of_z w32 (pos k)) ≡ pos k
    fits k le = omega (arith, ints)
fits_product n (negsuc m) le near =
    let e = pos-*ℤ-negsuc n m in
    let low = mul-le-mul_right (suc m) le in
    let small : m ≤ 253 = let h = near.0 in omega (arith, ints) in
    ap (λ (t : ℤ). to_z w32 (of_z w32 t)) e ∙ fits (n * suc m) (omega arith) ∙ sym e
  where
    fits : (k : ℕ) → k ≤ 8128 → to_z w32 (of_z w32 (neg_ℤ (pos k))) ≡ neg_ℤ (pos k)
    fits k le = omega (arith, ints)

pub product_is : (n : ℕ) (z : ℤ) → n ≤ 32 → IsNear z → to_z w32 (of_z w32 (to_z w32 n *ℤ to_z w32 (of_z w32 z))) ≡ pos n *ℤ z
product_is n z le near =
    let low = near.0 in
    let high = near.1 in
    let number : to_z w32 n ≡ pos n = omega (arith, ints) in
    let bound : to_z w32 (of_z w32 z) ≡ z = omega (arith, ints) in
    ap (λ (t : ℤ). to_z w32 (of_z w32 (t *ℤ to_z w32 (of_z w32 z)))) number
    ∙ ap (λ (t : ℤ). to_z w32 (of_z w32 (pos n *ℤ t))) bound
    ∙ fits_product n z le near

abbrev pub box_of : ℤ → ℤ → ℤ → ℤ → OffsetBox
box_of a b c d = record { x0 = a; x1 = b; y0 = c; y1 = d }

pub same_box : (a b c d a' b' c' d' : ℤ) → a ≡ a' → b ≡ b' → c ≡ c' → d ≡ d' → box_of a b c d ≡ box_of a' b' c' d'
same_box a b c d a' b' c' d' p q r s = cc

pub bounds_near : (box : OffsetBox) → IsNearBox box → IsNear box.x0 × IsNear box.x1 × IsNear box.y0 × IsNear box.y1
bounds_near box near =
    let left = near.left in
    let right = near.right in
    let top = near.top in
    let bottom = near.bottom in
    let wide = near.wide in
    let high = near.high in
    ((left, omega (arith, ints)), (omega (arith, ints), right), (top, omega (arith, ints)), (omega (arith, ints), bottom))
