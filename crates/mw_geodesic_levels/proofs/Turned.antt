-- An image of one column, taken as one of one row: its places keep their numbers and what is near them.
use Rattle.std.proofs.Common.{◌≡◌, ℕ, ◌+◌, ◌*◌, ◌<◌, ap, refl, arith, ◌∙◌, inl, inr}
use Rattle.std.proofs.Math.Nat.{mul_comm, mul-one, zero-mul}
use Rattle.mw_geodesic_levels.specs.declared.frame.Frame.{Frame}
use Rattle.mw_geodesic_levels.specs.Levels.{IsStill, IsRebuilt}

pub record IsTurned (column row : Frame) : Type 0 where
  pub narrow : column.width ≡ 1
  pub low : row.height ≡ 1
  pub long : row.width ≡ column.height
  pub corners : row.corners ≡ column.corners

in_column : (w x y : ℕ) → w ≡ 1 → x < w → y * w + x ≡ y
in_column w x y one lt = let e : y * w ≡ y = ap (λ (k : ℕ). y * k) one ∙ mul-one y in omega arith

in_row : (w x y : ℕ) → y < 1 → y * w + x ≡ x
in_row w x y lt = let none : y ≡ 0 = omega arith in let e : y * w ≡ 0 = ap (λ (k : ℕ). k * w) none ∙ zero-mul w in omega arith

pub turned_size : (column row : Frame) → IsTurned column row → row.height * row.width ≡ column.height * column.width
turned_size column row turned =
    let long = turned.long in
    let one : row.height * row.width ≡ row.width = ap (λ (k : ℕ). k * row.width) turned.low ∙ mul_comm 1 row.width ∙ mul-one row.width in
    let two : column.height * column.width ≡ column.height = ap (λ (k : ℕ). column.height * k) turned.narrow ∙ mul-one column.height in
    omega arith

-- what is still in the column is in the row
row_still : (column row : Frame) (mask h : ℕ → ℕ) → IsTurned column row → IsStill column mask h → IsStill row mask h
row_still column row mask h turned still = record {
  still = λ x y v p q r u across near.
      let narrow = turned.narrow in
      let low = turned.low in
      let long = turned.long in
      let edge = still.still 0 x u (omega arith) (omega arith) (omega arith) 0 (omega arith) (record { left = omega arith; right = omega arith; above = near.left; below = near.right; across = inr (inl refl) }) in
      let here = in_column column.width 0 x narrow (omega arith) in
      let there = in_column column.width 0 u narrow (omega arith) in
      let at = in_row row.width x y (omega arith) in
      let from = in_row row.width u v (omega arith) in
      omega (arith, ap h here, ap h there, ap mask here, ap h at, ap h from, ap mask at);
}

-- and the other way round
column_still : (column row : Frame) (mask h : ℕ → ℕ) → IsTurned column row → IsStill row mask h → IsStill column mask h
column_still column row mask h turned still = record {
  still = λ x y v p q r u across near.
      let narrow = turned.narrow in
      let low = turned.low in
      let long = turned.long in
      let edge = still.still y 0 0 (omega arith) (omega arith) (omega arith) v (omega arith) (record { left = near.above; right = near.below; above = omega arith; below = omega arith; across = inr (inr refl) }) in
      let here = in_row row.width y 0 (omega arith) in
      let there = in_row row.width v 0 (omega arith) in
      let at = in_column column.width x y narrow p in
      let from = in_column column.width u v narrow across in
      omega (arith, ap h here, ap h there, ap mask here, ap h at, ap h from, ap mask at);
}

pub turned_rebuilt : (column row : Frame) (mask marker g : ℕ → ℕ) → IsTurned column row → IsRebuilt row mask marker g → IsRebuilt column mask marker g
turned_rebuilt column row mask marker g turned rebuilt = record {
  raised = record {
    over = λ i lt. rebuilt.raised.over i (omega (arith, turned_size column row turned));
    within = λ h still under i lt. rebuilt.raised.within h (row_still column row mask h turned still) (λ j less. under j (omega (arith, turned_size column row turned))) i (omega (arith, turned_size column row turned));
  };
  still = column_still column row mask g turned rebuilt.still;
}
