-- Sums over the tickets, one ticket more.
use Rattle.std.proofs.Common.{◌≡◌, ℕ, ◌+◌, List, [], ◌∷◌, ◌++◌, map, sum, ap, ◌∙◌, arith, ◌≤◌, ◌<◌, ◌*◌, zero, suc, sym, inl, inr, add-one}
use Rattle.std.specs.List.{range_with_len}
use Rattle.std.proofs.lemmas.Grind.{common_steps}
use Rattle.std.proofs.lemmas.List.FromFn.{map-range_with_len_more}
use Rattle.std.proofs.lemmas.List.Sums.{sum_by-append, sum_by-cons}
use Rattle.std.proofs.lemmas.Bool.{cases_lt}

sum-push : (xs : List ℕ) (x : ℕ) → sum (xs ++ x ∷ []) ≡ sum xs + x
sum-push xs x = grind (arith, common_steps, sum_by-append, sum_by-cons)

pub sum-more : (f : ℕ → ℕ) (t : ℕ) → sum (map f (range_with_len 0 (t + 1))) ≡ sum (map f (range_with_len 0 t)) + f t
sum-more f t = ap sum (map-range_with_len_more f 0 t t (omega arith)) ∙ sum-push (map f (range_with_len 0 t)) (f t)

-- one term is within the sum
pub sum-at : (f : ℕ → ℕ) (n k : ℕ) → k < n → f k ≤ sum (map f (range_with_len 0 n))
sum-at f zero k within = absurd (omega (arith, within))
sum-at f (suc n) k within =
    let more : sum (map f (range_with_len 0 (suc n))) ≡ sum (map f (range_with_len 0 n)) + f n = ap (λ x. sum (map f (range_with_len 0 x))) (sym (add-one n)) ∙ sum-more f n in
    elim (cases_lt k n) [
      | inl below ↦ omega (arith, more, sum-at f n k below)
      | inr past ↦ let last : k ≡ n = omega (arith, within, past) in omega (arith, more, ap f last)
    ]

-- where no term is over m
pub sum-most : (f : ℕ → ℕ) (m n : ℕ) → ((t : ℕ) → t < n → f t ≤ m) → sum (map f (range_with_len 0 n)) ≤ n * m
sum-most f m zero most = omega arith
sum-most f m (suc n) most =
    let next : sum (map f (range_with_len 0 (suc n))) ≡ sum (map f (range_with_len 0 (n + 1))) = ap (λ (k : ℕ). sum (map f (range_with_len 0 k))) (one n) in
    let more = sum-more f n in
    let before = sum-most f m n (λ t lt. most t (omega arith)) in
    let last = most n (omega arith) in
    omega (arith, times n m)
  where
    one : (n : ℕ) → suc n ≡ n + 1
    one n = omega arith

    times : (n m : ℕ) → suc n * m ≡ n * m + m
    times n m = omega arith
