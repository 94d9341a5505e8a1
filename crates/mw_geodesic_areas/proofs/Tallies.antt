-- How many numbers pass, and sums of lists of 0 and 1.
use Rattle.std.proofs.Common.{◌≡◌, ◌≢◌, ℕ, zero, suc, ◌+◌, ◌<◌, ◌≤◌, Bool, true, false, List, [], ◌∷◌, length, get_or, refl, ap, arith, ◌∙◌, inl, inr}
use Rattle.std.specs.Prelude.{if◌then◌else◌, sum}
use Rattle.std.proofs.lemmas.Bool.{cases_Bool, cases_eq}
use Rattle.std.proofs.lemmas.List.Sums.{sum_by-cons}
use Rattle.mw_geodesic_areas.specs.Problems.{tally_below}

-- 1 for true
abbrev pub bit : Bool → ℕ
bit b = if b then 1 else 0

pub tally-zero : (s : ℕ → Bool) → tally_below s 0 ≡ 0
unfolding tally_below
tally-zero s = refl

pub tally-suc : (s : ℕ → Bool) (n : ℕ) → tally_below s (suc n) ≡ bit (s zero) + tally_below (λ i. s (suc i)) n
unfolding tally_below
tally-suc s n = refl

pub bit_true : (b : Bool) → b ≡ true → bit b ≡ 1
bit_true b e = rw e refl

pub bit_false : (b : Bool) → b ≡ false → bit b ≡ 0
bit_false b e = rw e refl

pub tally_same : (s t : ℕ → Bool) (n : ℕ) → ((i : ℕ) → i < n → s i ≡ t i) → tally_below s n ≡ tally_below t n
tally_same s t zero each = tally-zero s ∙ (rw (tally-zero t) refl)
tally_same s t (suc n) each =
    let rest = tally_same (λ i. s (suc i)) (λ i. t (suc i)) n (λ i lt. each (suc i) (omega arith)) in
    let here = ap bit (each zero (omega arith)) in
    omega (arith, tally-suc s n, tally-suc t n)

pub tally_none : (s : ℕ → Bool) (n : ℕ) → ((i : ℕ) → i < n → s i ≡ false) → tally_below s n ≡ 0
tally_none s zero each = tally-zero s
tally_none s (suc n) each =
    let rest = tally_none (λ i. s (suc i)) n (λ i lt. each (suc i) (omega arith)) in
    let here = bit_false (s zero) (each zero (omega arith)) in
    omega (arith, tally-suc s n)

-- one number alone
pub tally_one : (s : ℕ → Bool) (n p : ℕ) → p < n → s p ≡ true → ((i : ℕ) → i < n → i ≢ p → s i ≡ false) → tally_below s n ≡ 1
tally_one s zero p lt here others = absurd (omega arith)
tally_one s (suc n) zero lt here others =
    let rest = tally_none (λ i. s (suc i)) n (λ i le. others (suc i) (omega arith) (λ e. absurd (omega arith))) in
    let first = bit_true (s zero) here in
    omega (arith, tally-suc s n)
tally_one s (suc n) (suc p) lt here others =
    let rest = tally_one (λ i. s (suc i)) n p (omega arith) here (λ i le ne. others (suc i) (omega arith) (λ e. ne (omega arith))) in
    let first = bit_false (s zero) (others zero (omega arith) (λ e. absurd (omega arith))) in
    omega (arith, tally-suc s n)

-- numbers of two kinds
pub tally_sum : (s t u : ℕ → Bool) (n : ℕ) → ((i : ℕ) → i < n → bit (u i) ≡ bit (s i) + bit (t i)) → tally_below u n ≡ tally_below s n + tally_below t n
tally_sum s t u zero each = omega (arith, tally-zero s, tally-zero t, tally-zero u)
tally_sum s t u (suc n) each =
    let rest = tally_sum (λ i. s (suc i)) (λ i. t (suc i)) (λ i. u (suc i)) n (λ i lt. each (suc i) (omega arith)) in
    let here = each zero (omega arith) in
    omega (arith, tally-suc s n, tally-suc t n, tally-suc u n)

-- ---- sums

pub tally_low : (s : ℕ → Bool) (xs : List ℕ) → ((i : ℕ) → i < length xs → s i ≡ true → 1 ≤ get_or xs i 0) → tally_below s (length xs) ≤ sum xs
tally_low s [] each = omega (arith, tally-zero s)
tally_low s (x ∷ xs) each =
    let rest = tally_low (λ i. s (suc i)) xs (λ i lt is. each (suc i) (omega arith) is) in
    let first = sum_by-cons (λ s. s) x xs in
    elim (cases_Bool (s zero)) [
      | inl is ↦ let here : 1 ≤ x = each zero (omega arith) is in omega (arith, tally-suc s (length xs), bit_true (s zero) is)
      | inr is ↦ omega (arith, tally-suc s (length xs), bit_false (s zero) is)
    ]

pub tally_high : (s : ℕ → Bool) (xs : List ℕ) → ((i : ℕ) → i < length xs → get_or xs i 0 ≤ 1) → ((i : ℕ) → i < length xs → 1 ≤ get_or xs i 0 → s i ≡ true) → sum xs ≤ tally_below s (length xs)
tally_high s [] small each = omega (arith, tally-zero s)
tally_high s (x ∷ xs) small each =
    let rest = tally_high (λ i. s (suc i)) xs (λ i lt. small (suc i) (omega arith)) (λ i lt is. each (suc i) (omega arith) is) in
    let first = sum_by-cons (λ s. s) x xs in
    let most : x ≤ 1 = small zero (omega arith) in
    elim (cases_Bool (s zero)) [
      | inl is ↦ omega (arith, tally-suc s (length xs), bit_true (s zero) is)
      | inr is ↦ elim (cases_eq x 0) [
        | inl none ↦ omega (arith, tally-suc s (length xs), bit_false (s zero) is)
        | inr some ↦ absurd (unlike (s zero) is (each zero (omega arith) (at_least_one x some)))
      ]
    ]
  where
    unlike : (b : Bool) → b ≡ false → b ≡ true → ⊥
    unlike b e e' = cc

    at_least_one : (n : ℕ) → n ≢ 0 → 1 ≤ n
    at_least_one zero ne = absurd (ne refl)
    at_least_one (suc n) ne = omega arith
