-- Sums over the first numbers.
use Rattle.std.proofs.Common.{◌≡◌, ℕ, zero, suc, ◌+◌, ◌<◌, ◌≤◌, map, sum, inl, inr, ap, ◌∙◌, arith}
use Rattle.std.specs.List.{range_with_len}
use Rattle.std.proofs.lemmas.Bool.{cases_lt}
use Rattle.mw_core.proofs.mw_core_laws.CountLemmas.{sum-more}

-- the sum of f over the first n numbers
abbrev pub total : (ℕ → ℕ) → ℕ → ℕ
total f n = sum (map f (range_with_len 0 n))

total-suc : (f : ℕ → ℕ) (n : ℕ) → total f (suc n) ≡ total f n + f n
total-suc f n = let on : suc n ≡ n + 1 = omega arith in ap (total f) on ∙ sum-more f n

pub total-last : (f : ℕ → ℕ) (n k : ℕ) → k ≡ n + 1 → total f k ≡ total f n + f n
total-last f n k is = ap (total f) is ∙ sum-more f n

-- larger terms have a larger sum
pub total-le : (f g : ℕ → ℕ) (n : ℕ) → ((t : ℕ) → t < n → f t ≤ g t) → total f n ≤ total g n
total-le f g zero h = omega arith
total-le f g (suc n) h = omega (arith, total-suc f n, total-suc g n, total-le f g n (λ t l. h t (omega arith)), h n (omega arith))

pub total-same : (f g : ℕ → ℕ) (n : ℕ) → ((t : ℕ) → t < n → f t ≡ g t) → total f n ≡ total g n
total-same f g n h = omega (arith, total-le f g n (λ t l. omega (arith, h t l)), total-le g f n (λ t l. omega (arith, h t l)))

-- where one term gives d away, and none grows
pub total-falls : (f g : ℕ → ℕ) (n u d : ℕ) → u < n → f u + d ≤ g u → ((t : ℕ) → t < n → f t ≤ g t) → total f n + d ≤ total g n
total-falls f g zero u d l s h = absurd (omega arith)
total-falls f g (suc n) u d l s h = elim (cases_lt u n) [
  | inl b ↦ omega (arith, total-suc f n, total-suc g n, total-falls f g n u d b s (λ t k. h t (omega arith)), h n (omega arith))
  | inr past ↦
      let e : u ≡ n = omega arith in
      let last : f n + d ≤ g n = rw (← e) s in
      omega (arith, total-suc f n, total-suc g n, total-le f g n (λ t k. h t (omega arith)), last)
]
