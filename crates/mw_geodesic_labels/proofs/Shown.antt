-- The least and the greatest of the columns, or of the rows, that have a place.
use Rattle.std.proofs.Common.{◌≡◌, ℕ, zero, suc, ◌+◌, ◌<◌, ◌≤◌, Bool, true, List, [], ◌∷◌, length, get_or, refl, subst, sym, arith, ◌∙◌, inl, inr, zero-add}
use Rattle.std.specs.List.{All, Contains, filter, list_any, range_with_len}
use Rattle.std.proofs.lemmas.Bool.{cases_Bool, or_cases}
use Rattle.std.proofs.lemmas.List.Elements.{All-contains, All-filter, All-from_get_or, filter_passes}
use Rattle.std.proofs.lemmas.List.FromFn.{get_or-range_with_len, length-range_with_len}
use Rattle.mw_model.specs.Flat.{least, greatest}
use Rattle.mw_model.proofs.Extrema.{least_bound, least_reached, greatest_bound, greatest_reached}
use Rattle.mw_model.proofs.mw_facts.Finds.{contains-cons}
use Rattle.mw_model.proofs.mw_facts.Tests.{list_any-range}
use Rattle.mw_geodesic_labels.specs.Regions.{IsLeast, IsGreatest}

-- ---- numbers that pass a test

contains-filter : (p : ℕ → Bool) (xs : List ℕ) (i : ℕ) → i < length xs → p (get_or xs i 0) ≡ true → Contains (filter p xs) (get_or xs i 0)
contains-filter p [] i lt so = absurd (omega arith)
contains-filter p (x ∷ xs) zero lt so = rw so (0, omega arith, refl)
contains-filter p (x ∷ xs) (suc i) lt so =
    let rest = contains-filter p xs i (omega arith) so in
    elim (cases_Bool (p x)) [
      | inl passes ↦ rw passes (contains-cons x (get_or xs i 0) (filter p xs) rest)
      | inr fails ↦ rw fails rest
    ]

-- a number below n that passes is kept
pub kept_below : (p : ℕ → Bool) (n k : ℕ) → k < n → p k ≡ true → Contains (filter p (range_with_len 0 n)) k
kept_below p n k lt so =
    let is : get_or (range_with_len 0 n) k 0 ≡ k = get_or-range_with_len 0 n k 0 lt ∙ zero-add k in
    let here = contains-filter p (range_with_len 0 n) k (omega (arith, length-range_with_len 0 n)) (subst (λ (t : ℕ). p t ≡ true) (sym is) so) in
    subst (λ (t : ℕ). Contains (filter p (range_with_len 0 n)) t) is here

all_below : (n : ℕ) → All (λ j. j < n) (range_with_len 0 n)
all_below n =
    All-from_get_or (λ j. j < n) (range_with_len 0 n) 0
    (λ i lt.
    let inside : i < n = omega (arith, length-range_with_len 0 n) in
    let is = get_or-range_with_len 0 n i 0 inside in
    omega arith)

-- what is kept is below n and passes
pub below_kept : (p : ℕ → Bool) (n k : ℕ) → Contains (filter p (range_with_len 0 n)) k → (k < n) × (p k ≡ true)
below_kept p n k has = (
  All-contains (λ j. j < n) (filter p (range_with_len 0 n)) k (All-filter p (λ j. j < n) (range_with_len 0 n) (all_below n)) has,
  All-contains (λ j. p j ≡ true) (filter p (range_with_len 0 n)) k (filter_passes p (range_with_len 0 n)) has,
)

record Found (p : ℕ → Bool) (a n : ℕ) : Type 0 where
  at : ℕ
  within : at < a + n
  passes : p at ≡ true

found : (p : ℕ → Bool) (a n : ℕ) → list_any p (range_with_len a n) ≡ true → Found p a n
found p a zero some = absurd cc
found p a (suc n) some =
    elim (or_cases (p a) (list_any p (range_with_len (a + 1) n)) some) [
      | inl here ↦ record { at = a; within = omega arith; passes = here }
      | inr later ↦
          let rest = found p (a + 1) n later in
          let within = rest.within in
          record { at = rest.at; within = omega arith; passes = rest.passes }
    ]

-- ---- lines of a frame

-- the test shows where something holds within the frame
pub record Shows (S : ℕ → ℕ → Bool) (H : ℕ → ℕ → Type 0) (m n : ℕ) : Type 0 where
  pub on : (a b : ℕ) → a < m → b < n → S a b ≡ true → H a b
  pub first : (a b : ℕ) → H a b → a < m
  pub second : (a b : ℕ) → H a b → b < n
  pub back : (a b : ℕ) → H a b → S a b ≡ true

pub turned : (S : ℕ → ℕ → Bool) (H : ℕ → ℕ → Type 0) (m n : ℕ) → Shows S H m n → Shows (λ b a. S a b) (λ b a. H a b) n m
turned S H m n shows = record {
  on = λ b a q p so. shows.on a b p q so;
  first = λ b a has. shows.second a b has;
  second = λ b a has. shows.first a b has;
  back = λ b a has. shows.back a b has;
}

-- the lines on which the test shows a place
abbrev shown : (ℕ → ℕ → Bool) → ℕ → ℕ → List ℕ
shown S m n = filter (λ a. list_any (λ b. S a b) (range_with_len 0 n)) (range_with_len 0 m)

on_line : (S : ℕ → ℕ → Bool) (H : ℕ → ℕ → Type 0) (m n a : ℕ) → Shows S H m n → (b : ℕ) × H a b → Contains (shown S m n) a
on_line S H m n a shows has =
    kept_below (λ a. list_any (λ b. S a b) (range_with_len 0 n)) m a (shows.first a has.0 has.1)
    (list_any-range (λ b. S a b) 0 n has.0 (omega arith) (omega (arith, shows.second a has.0 has.1)) (shows.back a has.0 has.1))

line_holds : (S : ℕ → ℕ → Bool) (H : ℕ → ℕ → Type 0) (m n a : ℕ) → Shows S H m n → Contains (shown S m n) a → (b : ℕ) × H a b
line_holds S H m n a shows has =
    let kept = below_kept (λ a. list_any (λ b. S a b) (range_with_len 0 n)) m a has in
    let one = found (λ b. S a b) 0 n kept.1 in
    (one.at, shows.on a one.at kept.0 (omega (arith, one.within)) one.passes)

pub least_shown : (S : ℕ → ℕ → Bool) (H : ℕ → ℕ → Type 0) (m n a b : ℕ) → Shows S H m n → H a b → IsLeast (λ a. (b : ℕ) × H a b) (least m (shown S m n))
least_shown S H m n a b shows one =
    let xs = shown S m n in
    let low : (j : ℕ) → (b : ℕ) × H j b → least m xs ≤ j = λ j has. All-contains (λ k. least m xs ≤ k) xs j (least_bound m xs) (on_line S H m n j shows has) in
    record {
      met = elim (least_reached m xs) [
        | inl none ↦ absurd (omega (arith, low a (b, one), shows.first a b one))
        | inr some ↦ line_holds S H m n (least m xs) shows some
      ];
      least = low;
    }

pub greatest_shown : (S : ℕ → ℕ → Bool) (H : ℕ → ℕ → Type 0) (m n a b : ℕ) → Shows S H m n → H a b → IsGreatest (λ a. (b : ℕ) × H a b) (greatest (shown S m n))
greatest_shown S H m n a b shows one =
    let xs = shown S m n in
    let high : (j : ℕ) → (b : ℕ) × H j b → j ≤ greatest xs = λ j has. All-contains (λ k. k ≤ greatest xs) xs j (greatest_bound xs) (on_line S H m n j shows has) in
    record {
      met = elim (greatest_reached xs) [
        | inl none ↦
            let is : a ≡ greatest xs = omega (arith, high a (b, one)) in
            subst (λ (t : ℕ). (b : ℕ) × H t b) is (b, one)
        | inr some ↦ line_holds S H m n (greatest xs) shows some
      ];
      greatest = high;
    }
