-- Sums of parts of a list.
use Rattle.std.proofs.Common.{◌≡◌, ℕ, zero, suc, ◌+◌, ◌<◌, ◌≤◌, List, length, take, sum, refl, ap, sym, ◌∙◌, arith, get_or, add-zero}
use Rattle.std.proofs.lemmas.List.Sums.{sum_by_more}
use Rattle.mw_core_sums.specs.Trees.{span_sum}

pub span-add : (t : List ℕ) (a m n : ℕ) → span_sum t a (m + n) ≡ span_sum t a m + span_sum t (a + m) n
span-add t a m zero = ap (span_sum t a) (add-zero m) ∙ sym (add-zero (span_sum t a m))
span-add t a m (suc n) = ap (span_sum t a) (along m n) ∙ (let e = span-add t a m n in let f : get_or t (a + (m + n)) 0 ≡ get_or t (a + m + n) 0 = ap (λ (k : ℕ). get_or t k 0) (grouped a m n) in omega arith)
  where
    along : (m n : ℕ) → m + suc n ≡ suc (m + n)
    along m n = omega arith

    grouped : (a m n : ℕ) → a + (m + n) ≡ a + m + n
    grouped a m n = omega arith

pub span-same : (t s : List ℕ) (a b n : ℕ) → ((j : ℕ) → j < n → get_or t (a + j) 0 ≡ get_or s (b + j) 0) → span_sum t a n ≡ span_sum s b n
span-same t s a b zero same = refl
span-same t s a b (suc n) same = omega (arith, span-same t s a b n (λ j lt. same j (omega arith)), same n (omega arith))

pub span-none : (t : List ℕ) (a n : ℕ) → ((j : ℕ) → j < n → get_or t (a + j) 0 ≡ 0) → span_sum t a n ≡ 0
span-none t a zero none = refl
span-none t a (suc n) none = omega (arith, span-none t a n (λ j lt. none j (omega arith)), none n (omega arith))

-- the sum of the first ones
pub sum-span : (xs : List ℕ) (n : ℕ) → n ≤ length xs → sum (take n xs) ≡ span_sum xs 0 n
sum-span xs zero le = refl
sum-span xs (suc n) le =
    ap (λ (k : ℕ). sum (take k xs)) (next n)
    ∙ sum_by_more (λ x. x) xs n 0 (omega arith)
    ∙ (let e = sum-span xs n (omega arith) in let f : get_or xs n 0 ≡ get_or xs (0 + n) 0 = ap (λ (k : ℕ). get_or xs k 0) (front n) in omega arith)
  where
    next : (n : ℕ) → suc n ≡ n + 1
    next n = omega arith

    front : (n : ℕ) → n ≡ 0 + n
    front n = omega arith
