-- Sums of the first values of a sequence.
use Rattle.std.proofs.Common.{◌≡◌, ℕ, zero, suc, ◌+◌, ◌<◌, refl, arith}
use Rattle.mw_rank_medians.specs.Columns.{sum_to}

pub sum_to-same : (f h : ℕ → ℕ) (n : ℕ) → ((i : ℕ) → i < n → f i ≡ h i) → sum_to f n ≡ sum_to h n
sum_to-same f h zero same = refl
sum_to-same f h (suc n) same = omega (arith, sum_to-same f h n (λ i lt. same i (omega arith)), same n (omega arith))

sum_to-none : (n : ℕ) → 0 ≡ sum_to (λ i. 0) n
sum_to-none zero = refl
sum_to-none (suc n) = omega (arith, sum_to-none n)

sum_to-plus : (f h : ℕ → ℕ) (n : ℕ) → sum_to f n + sum_to h n ≡ sum_to (λ i. f i + h i) n
sum_to-plus f h zero = refl
sum_to-plus f h (suc n) = omega (arith, sum_to-plus f h n)

-- by rows or by columns
pub sum_to-turned : (f : ℕ → ℕ → ℕ) (m n : ℕ) → sum_to (λ r. sum_to (λ c. f r c) m) n ≡ sum_to (λ c. sum_to (λ r. f r c) n) m
sum_to-turned f m zero = sum_to-none m
sum_to-turned f m (suc n) = omega (arith, sum_to-turned f m n, sum_to-plus (λ c. sum_to (λ r. f r c) n) (λ c. f n c) m)
