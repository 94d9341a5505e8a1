-- How many of the first numbers pass a test, as the test changes.
use Rattle.std.proofs.Common.{◌≡◌, ◌≢◌, ℕ, zero, suc, ◌+◌, ◌<◌, Bool, true, false, not, cond, nat_eq, nat_lt, List, [], ◌∷◌, count_by, refl, sym, ap, ◌∙◌, arith, inl, inr, zero-add, add-one}
use Rattle.std.specs.Prelude.{◌||◌}
use Rattle.std.specs.List.{range_with_len, list_any}
use Rattle.std.proofs.lemmas.Bool.{cases_lt, lt-ltb, ne_eqb}
use Rattle.std.proofs.lemmas.List.Sums.{sum_by-cons, sum_by_push}
use Rattle.mw_model.proofs.mw_facts.Ranges.{range_with_len-more}
use Rattle.mw_model.proofs.mw_facts.Counts.{count_by-same}
use Rattle.mw_store.specs.Wanted.{one_if}

-- one number more
pub count-more : (p : ℕ → Bool) (n : ℕ) → count_by p (range_with_len 0 (n + 1)) ≡ count_by p (range_with_len 0 n) + one_if (p n)
count-more p n = ap (λ (xs : List ℕ). count_by p xs) (range_with_len-more 0 n n (zero-add n)) ∙ sum_by_push (λ x. cond (p x) 1 0) (range_with_len 0 n) n

pub count-suc : (p : ℕ → Bool) (n : ℕ) → count_by p (range_with_len 0 (suc n)) ≡ count_by p (range_with_len 0 n) + one_if (p n)
count-suc p n = ap (λ (k : ℕ). count_by p (range_with_len 0 k)) (sym (add-one n)) ∙ count-more p n

-- a test that changes at one number
pub count-change : (p q : ℕ → Bool) (x n : ℕ) → x < n → ((k : ℕ) → k < n → k ≢ x → p k ≡ q k)
    → count_by p (range_with_len 0 n) + one_if (q x) ≡ count_by q (range_with_len 0 n) + one_if (p x)
count-change p q x zero lt same = absurd (omega arith)
count-change p q x (suc n) lt same =
    elim (cases_lt x n) [
      | inl less ↦
          let last : p n ≡ q n = same n (omega arith) (λ e. absurd (omega (arith, e, less))) in
          omega (arith, count-suc p n, count-suc q n, count-change p q x n less (λ k l ne. same k (omega (arith, l)) ne), ap one_if last)
      | inr more ↦
          let last : x ≡ n = omega (arith, lt, more) in
          let before = count_by-same p q n (λ k l. same k (omega (arith, l)) (λ e. absurd (omega (arith, e, l, last)))) in
          omega (arith, count-suc p n, count-suc q n, before, ap (λ (k : ℕ). one_if (p k)) last, ap (λ (k : ℕ). one_if (q k)) last)
    ]

one-more : (b : Bool) (m n : ℕ) (r : Bool) → m ≡ one_if b + n → nat_lt 0 n ≡ r → nat_lt 0 m ≡ (b || r)
one-more true m n r e h = lt-ltb 0 m (omega (arith, e))
one-more false m n r e h = ap (nat_lt 0) (e ∙ zero-add n) ∙ h

-- some pass exactly where one does
pub count-any : (p : ℕ → Bool) (xs : List ℕ) → nat_lt 0 (count_by p xs) ≡ list_any p xs
count-any p [] = refl
count-any p (x ∷ xs) = one-more (p x) (count_by p (x ∷ xs)) (count_by p xs) (list_any p xs) (sum_by-cons (λ k. cond (p k) 1 0) x xs) (count-any p xs)

pub zero-or-more : (n : ℕ) → nat_eq n 0 ≡ not (nat_lt 0 n)
zero-or-more zero = refl
zero-or-more (suc n) = ne_eqb (suc n) 0 (λ e. absurd (omega (arith, e))) ∙ ap not (sym (lt-ltb 0 (suc n) (omega arith)))
