-- How many of the first numbers pass a test.
use Rattle.std.proofs.Common.{◌≡◌, ℕ, zero, suc, ◌+◌, ◌<◌, ◌≤◌, Bool, true, false, cond, refl, subst, ◌∙◌, arith, zero-add}
use Rattle.std.specs.Prelude.{count_by}
use Rattle.std.specs.List.{range_with_len}
use Rattle.std.proofs.lemmas.List.Sums.{sum_by-cons, get_or-le-sum_by, count_by-le-length}
use Rattle.std.proofs.lemmas.List.FromFn.{get_or-range_with_len, length-range_with_len}

pub count_by-none : (p : ℕ → Bool) (a n : ℕ) → ((k : ℕ) → a ≤ k → k < a + n → p k ≡ false) → count_by p (range_with_len a n) ≡ 0
count_by-none p a zero none = refl
count_by-none p a (suc n) none =
    let here : ◌≡◌ {A = ℕ} (cond (p a) 1 0) 0 = rw (none a (omega arith) (omega arith)) refl in
    omega (arith, sum_by-cons (λ x. cond (p x) 1 0) a (range_with_len (a + 1) n), here, count_by-none p (a + 1) n (λ k from to. none k (omega (arith, from)) (omega (arith, to))))

pub count_by-some : (p : ℕ → Bool) (n k : ℕ) → k < n → p k ≡ true → 1 ≤ count_by p (range_with_len 0 n)
count_by-some p n k within passes =
    let at = get_or-le-sum_by (λ x. cond (p x) 1 0) (range_with_len 0 n) k 0 (omega (arith, within, length-range_with_len 0 n)) in
    let place = get_or-range_with_len 0 n k 0 within ∙ zero-add k in
    let one : ◌≡◌ {A = ℕ} (cond (p k) 1 0) 1 = rw passes refl in
    let P : ℕ → Type 0 = λ x. cond (p x) 1 0 ≤ count_by p (range_with_len 0 n) in
    omega (arith, subst P place at, one)

pub count_by-most : (p : ℕ → Bool) (n : ℕ) → count_by p (range_with_len 0 n) ≤ n
count_by-most p n = omega (arith, count_by-le-length p (range_with_len 0 n), length-range_with_len 0 n)

-- two tests that agree below n
pub count_by-same : (p q : ℕ → Bool) (n : ℕ) → ((t : ℕ) → t < n → p t ≡ q t) → count_by p (range_with_len 0 n) ≡ count_by q (range_with_len 0 n)
count_by-same p q n each = same_from 0 n (λ t from to. each t (omega (arith, to)))
  where
    same_from : (a n : ℕ) → ((t : ℕ) → a ≤ t → t < a + n → p t ≡ q t) → count_by p (range_with_len a n) ≡ count_by q (range_with_len a n)
    same_from a zero same = refl
    same_from a (suc n) same =
        let here : ◌≡◌ {A = ℕ} (cond (p a) 1 0) (cond (q a) 1 0) = rw (same a (omega arith) (omega arith)) refl in
        omega (
          arith,
          sum_by-cons (λ x. cond (p x) 1 0) a (range_with_len (a + 1) n),
          sum_by-cons (λ x. cond (q x) 1 0) a (range_with_len (a + 1) n),
          here,
          same_from (a + 1) n (λ t from to. same t (omega (arith, from)) (omega (arith, to))),
        )
