-- Tests on numbers, and induction over the numbers below one.
use Rattle.std.proofs.Common.{◌≡◌, ℕ, zero, suc, ◌+◌, ◌*◌, ◌<◌, Bool, true, false, cond, ltb, min, max, ◌⊎◌, inl, inr, ◌≤◌, refl, arith, not, eqb}
use Rattle.std.proofs.lemmas.Bool.{cases_lt}
use Rattle.std.proofs.lemmas.Bool.Decides.{nat_tests}
use lib.Count.{ones}

pub add_one-add : (a b : ℕ) → a + 1 + b ≡ a + suc b
add_one-add a b = omega arith

pub factor-positive : (k a b : ℕ) → k < a * b → 0 < b
factor-positive k a zero lt = absurd (omega arith)
factor-positive k a (suc b) lt = omega arith

pub ones-bit : (b : ℕ) → b < 2 → ones b ≡ b
unfolding ones
ones-bit zero lt = refl
ones-bit (suc zero) lt = refl
ones-bit (suc (suc b)) lt = absurd (omega arith)

pub cond-min : (x y : ℕ) → cond (ltb x y) x y ≡ min x y
cond-min x y = grind (arith, nat_tests)

pub cond-max : (x y : ℕ) → cond (ltb x y) y x ≡ max x y
cond-max x y = grind (arith, nat_tests)

-- 1 where it is true, else 0
abbrev pub one_if : Bool → ℕ
one_if b = cond b 1 0

pub one_if-le : (b : Bool) → one_if b ≤ 1
one_if-le true = omega arith
one_if-le false = omega arith

pub one_if-not_zero : (n : ℕ) → n ≤ 1 → one_if (not (eqb n 0)) ≡ n
one_if-not_zero n le = grind (arith, nat_tests)

pub below_or_last : (n t : ℕ) → t < n + 1 → (t < n) ⊎ (t ≡ n)
below_or_last n t lt = elim (cases_lt t n) [ inl less ↦ inl less | inr past ↦ inr (omega arith) ]

-- a fact of all numbers follows from what the smaller ones tell
pub strong_induction : (P : ℕ → Type 0) → ((u : ℕ) → ((v : ℕ) → v < u → P v) → P u) → (u : ℕ) → P u
strong_induction P f u = below (suc u) u (omega arith)
  where
    below : (n u : ℕ) → u < n → P u
    below zero u lt = absurd (omega arith)
    below (suc n) u lt = f u (λ v less. below n v (omega arith))
