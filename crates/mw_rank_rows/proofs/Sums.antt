-- Sums of the first values of a sequence.
use Rattle.std.proofs.Common.{◌≡◌, ℕ, zero, suc, ◌+◌, ◌*◌, ◌<◌, ◌≤◌, refl, ap, arith, ◌∙◌}
use Rattle.mw_rank_rows.specs.Columns.{total}

pub total-more : (f : ℕ → ℕ) (n : ℕ) → total f (n + 1) ≡ total f n + f n
total-more f n = ap (total f) (let e : n + 1 ≡ suc n = omega arith in e)

pub total-same : (f h : ℕ → ℕ) (n : ℕ) → ((i : ℕ) → i < n → f i ≡ h i) → total f n ≡ total h n
total-same f h zero same = refl
total-same f h (suc n) same = omega (arith, total-same f h n (λ i lt. same i (omega arith)), same n (omega arith))

pub total-none : (f : ℕ → ℕ) (n : ℕ) → ((i : ℕ) → i < n → f i ≡ 0) → total f n ≡ 0
total-none f zero none = refl
total-none f (suc n) none = omega (arith, total-none f n (λ i lt. none i (omega arith)), none n (omega arith))

pub total-split : (f : ℕ → ℕ) (a b : ℕ) → total f (a + b) ≡ total f a + total (λ i. f (a + i)) b
total-split f a zero = ap (total f) (let e : a + 0 ≡ a = omega arith in e) ∙ (let e : total f a ≡ total f a + 0 = omega arith in e)
total-split f a (suc b) = ap (total f) (let e : a + suc b ≡ suc (a + b) = omega arith in e) ∙ omega (arith, total-split f a b)

pub total-plus : (f h : ℕ → ℕ) (n : ℕ) → total (λ i. f i + h i) n ≡ total f n + total h n
total-plus f h zero = refl
total-plus f h (suc n) = omega (arith, total-plus f h n)

pub total-rises : (f h : ℕ → ℕ) (n : ℕ) → ((i : ℕ) → i < n → f i ≤ h i) → total f n ≤ total h n
total-rises f h zero le = omega arith
total-rises f h (suc n) le = omega (arith, total-rises f h n (λ i lt. le i (omega arith)), le n (omega arith))

pub total-within : (f : ℕ → ℕ) (n b : ℕ) → ((i : ℕ) → i < n → f i ≤ b) → total f n ≤ n * b
total-within f zero b le = omega arith
total-within f (suc n) b le = omega (arith, total-within f n b (λ i lt. le i (omega arith)), le n (omega arith), more n b)
  where
    more : (n b : ℕ) → suc n * b ≡ n * b + b
    more n b = grind arith

-- where all values outside of a part are 0, the sum is that of the part
pub total-part : (f : ℕ → ℕ) (a n rest : ℕ) → ((i : ℕ) → i < a → f i ≡ 0) → ((i : ℕ) → i < rest → f (a + n + i) ≡ 0) → total f (a + n + rest) ≡ total (λ i. f (a + i)) n
total-part f a n rest before after = omega (arith, total-split f (a + n) rest, total-split f a n, total-none f a before, total-none (λ i. f (a + n + i)) rest after)
