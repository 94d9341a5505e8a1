-- Sums and products of bytes that are told as the most that 64 bits hold.
use Rattle.std.proofs.Common.{◌≡◌, ℕ, zero, suc, ◌+◌, ◌-◌, ◌*◌, ◌^◌, ◌<◌, ◌≤◌, min, inl, inr, arith, refl, sym, ap, mul_comm, ◌∙◌}
use Rattle.std.proofs.Math.Nat.{min-eq_left, min-eq_right}
use Rattle.std.proofs.lemmas.Bool.{cases_lt}
use Rattle.std.proofs.lemmas.Nat.{mul-le}
use Rattle.mw_core.specs.Costs.{told_bytes}

pub told_itself : (n : ℕ) → n < 2 ^ 64 → n ≡ told_bytes n
told_itself n small = omega arith

pub told_plus : (r x y a : ℕ) → x ≡ told_bytes a → r ≡ told_bytes (x + y) → r ≡ told_bytes (a + y)
told_plus r x y a one said = omega (arith, one, said)

pub told_add : (r x y a b : ℕ) → x ≡ told_bytes a → y ≡ told_bytes b → r ≡ told_bytes (x + y) → r ≡ told_bytes (a + b)
told_add r x y a b one other said = omega (arith, one, other, said)

pub told_least : (r x y a b : ℕ) → x ≡ told_bytes a → y ≡ told_bytes b → r ≡ min x y → r ≡ told_bytes (min a b)
told_least r x y a b one other said = omega (arith, one, other, said)

-- the most that is told
abbrev most : ℕ
most = 2 ^ 64 - 1

-- a product with more than is told
large_product : (a y : ℕ) → most ≤ a → told_bytes (most * y) ≡ told_bytes (a * y)
large_product a zero more = omega arith
large_product a (suc y) more =
    let one : most * 1 ≤ most * suc y = mul-le most 1 most (suc y) (omega arith) (omega arith) in
    let other : most * 1 ≤ a * suc y = mul-le most 1 a (suc y) more (omega arith) in
    omega (arith, one, other)

pub told_times : (r x y a : ℕ) → x ≡ told_bytes a → r ≡ told_bytes (x * y) → r ≡ told_bytes (a * y)
told_times r x y a one said =
    elim (cases_lt a most) [
      | inl less ↦ said ∙ ap (λ (t : ℕ). told_bytes (t * y)) (one ∙ min-eq_left (omega arith))
      | inr more ↦ said ∙ ap (λ (t : ℕ). told_bytes (t * y)) (one ∙ min-eq_right more) ∙ large_product a y more
    ]

turned_product : (r x y : ℕ) → r ≡ told_bytes (x * y) → r ≡ told_bytes (y * x)
turned_product r x y said = said ∙ ap told_bytes (mul_comm x y)

pub told_mul : (r x y a b : ℕ) → x ≡ told_bytes a → y ≡ told_bytes b → r ≡ told_bytes (x * y) → r ≡ told_bytes (a * b)
told_mul r x y a b one other said =
    turned_product r b a (told_times r y a b other (turned_product r a y (told_times r x y a one said)))

pub told_by : (r x y a b : ℕ) → x ≡ a → y ≡ told_bytes b → r ≡ told_bytes (x * y) → r ≡ told_bytes (a * b)
told_by r x y a b same other said =
    turned_product r b a (told_times r y a b other (turned_product r a y (said ∙ ap (λ (t : ℕ). told_bytes (t * y)) same)))
