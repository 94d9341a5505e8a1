-- Sums over the first numbers.
use Rattle.std.proofs.Common.{◌≡◌, ◌≢◌, ℕ, zero, suc, ◌+◌, ◌<◌, ◌≤◌, Bool, true, false, cond, map, sum, inl, inr, refl, sym, ap, ◌∙◌, arith}
use Rattle.std.specs.List.{range_with_len, count_by}
use Rattle.std.proofs.lemmas.Bool.{cases_lt}
use Rattle.std.proofs.lemmas.List.Sums.{sum-map}
use Rattle.mw_core.proofs.mw_core_laws.CountLemmas.{sum-more}

-- the sum of f over the first n numbers
abbrev pub total : (ℕ → ℕ) → ℕ → ℕ
total f n = sum (map f (range_with_len 0 n))

pub total-suc : (f : ℕ → ℕ) (n : ℕ) → total f (suc n) ≡ total f n + f n
total-suc f n = let on : suc n ≡ n + 1 = omega arith in ap (total f) on ∙ sum-more f n

-- larger terms have a larger sum
pub total-le : (f g : ℕ → ℕ) (n : ℕ) → ((t : ℕ) → t < n → f t ≤ g t) → total f n ≤ total g n
total-le f g zero h = omega arith
total-le f g (suc n) h = omega (arith, total-suc f n, total-suc g n, total-le f g n (λ t l. h t (omega arith)), h n (omega arith))

-- where one term gives d away, and none grows
pub total-falls : (f g : ℕ → ℕ) (n u d : ℕ) → u < n → f u + d ≤ g u → ((t : ℕ) → t < n → t ≢ u → f t ≤ g t) → total f n + d ≤ total g n
total-falls f g zero u d l s h = absurd (omega arith)
total-falls f g (suc n) u d l s h = elim (cases_lt u n) [
  | inl b ↦ omega (arith, total-suc f n, total-suc g n, total-falls f g n u d b s (λ t k. h t (omega arith)), h n (omega arith) (λ e. omega (arith, e)))
  | inr past ↦
      let e : u ≡ n = omega arith in
      let last : f n + d ≤ g n = rw (← e) s in
      omega (arith, total-suc f n, total-suc g n, total-le f g n (λ t k. h t (omega arith) (λ e'. omega (arith, e, e'))), last)
]

-- how many of the first n numbers pass
pub count-total : (p : ℕ → Bool) (n : ℕ) → count_by p (range_with_len 0 n) ≡ total (λ t. cond (p t) 1 0) n
count-total p n = sym (sum-map (λ t. cond (p t) 1 0) (range_with_len 0 n))

pub total-zero : (f : ℕ → ℕ) (n : ℕ) → ((t : ℕ) → t < n → f t ≡ 0) → total f n ≡ 0
total-zero f zero h = refl
total-zero f (suc n) h = omega (arith, total-suc f n, total-zero f n (λ t l. h t (omega arith)), h n (omega arith))

-- where one number passes no more, and the others as before
pub count-falls : (p q : ℕ → Bool) (n k : ℕ) → k < n → p k ≡ false → q k ≡ true → ((t : ℕ) → t ≢ k → p t ≡ q t) → count_by p (range_with_len 0 n) + 1 ≤ count_by q (range_with_len 0 n)
count-falls p q n k l out inside same =
    let f : ℕ → ℕ = λ t. cond (p t) 1 0 in
    let g : ℕ → ℕ = λ t. cond (q t) 1 0 in
    let zero_here : f k ≡ 0 = rw out refl in
    let one_here : g k ≡ 1 = rw inside refl in
    omega (arith, count-total p n, count-total q n, total-falls f g n k 1 l (omega (arith, zero_here, one_here)) (λ t h other. let e : f t ≡ g t = rw (same t other) refl in omega (arith, e)))
