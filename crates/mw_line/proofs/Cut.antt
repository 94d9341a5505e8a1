-- The ends of a bar, cut to a line, and the combines of windows by blocks.
use Rattle.std.proofs.Common.{◌≡◌, ℕ, ◌+◌, ◌-◌, ◌*◌, ◌<◌, ◌≤◌, List, length, take, drop, fold, slice_range, min, ℤ, pos, negsuc, ◌+ℤ◌, ◌-ℤ◌, ◌≤ℤ◌, to_z, of_z, w32, w64, length-drop, refl, ap, sym, arith, ◌∙◌, inl, inr}
use Rattle.std.proofs.Math.Nat.{mul-le-mul_right}
use Rattle.std.proofs.lemmas.Bool.{cases_lt}
use Rattle.std.proofs.lemmas.Grind.{div_ceil_times}
use Rattle.std.proofs.lemmas.Int.{ints, clamps}
use Rattle.std.proofs.lemmas.List.{drop_min, take_min}
use Rattle.std.specs.Int.{div_ceil, int_max, int_min}
use Rattle.mw_line.specs.Line.{combines, cut_to, line_at, places_within, samples_between}
use Rattle.mw_line.proofs.Padded.{size_positive}
use Rattle.mw_model.specs.Rectangles.{nonnegative, span}
use Rattle.mw_model.proofs.Nonnegative.{nonnegative_is}

-- one block more
pub div_ceil-block : (at m k : ℕ) → div_ceil at k * k ≡ at → 0 < m → m ≤ k → div_ceil (at + m) k * k ≡ at + k
div_ceil-block at m k whole some short =
    let blocks = div_ceil at k in
    let next = div_ceil (at + m) k in
    let bounds = div_ceil_times (at + m) k (omega arith) in
    elim (cases_lt blocks next) [
      | inl more ↦ elim (cases_lt (blocks + 1) next) [
        | inl too_many ↦
            let le : blocks + 2 ≤ next = omega arith in
            omega (arith, whole, bounds.1, mul-le-mul_right k le)
        | inr this ↦
            let same : next ≡ blocks + 1 = omega arith in
            ap (λ (t : ℕ). t * k) same ∙ omega (arith, whole)
      ]
      | inr few ↦ omega (arith, whole, bounds.0, mul-le-mul_right k few)
    ]

combines-most : (n k : ℕ) → 0 < k → combines n k ≤ 3 * n + k
combines-most n k some = let bounds = div_ceil_times n k some in omega (arith, bounds.1)

-- the cut bar has no more places, and its ends are in the same order
places-cut : (n : ℕ) (a b : ℤ) → a ≤ℤ b → places_within n a b ≤ span a b
places-cut n a b le =
    omega (arith, ints, clamps, nonnegative_is (b -ℤ a +ℤ pos 1), nonnegative_is (cut_to n b -ℤ cut_to n a +ℤ pos 1))

cut-ordered : (n : ℕ) (a b : ℤ) → a ≤ℤ b → cut_to n a ≤ℤ cut_to n b
cut-ordered n a b le = omega (arith, ints, clamps)

-- what the code makes of an end
pub cut_fits : (n : ℕ) (z made : ℤ) → negsuc 2147483647 ≤ℤ z → z ≤ℤ pos 2147483647 → made ≡ int_max (int_min z (pos (min n 2147483648))) (pos 0 -ℤ pos (min n 2147483648))
    → to_z w32 (of_z w32 (to_z w64 (of_z w64 made))) ≡ cut_to n z
cut_fits n z made low high is =
    let same : made ≡ cut_to n z = omega (arith, ints, clamps, is) in
    let above : negsuc 2147483647 ≤ℤ made = omega (arith, ints, clamps, is) in
    let below : made ≤ℤ pos 2147483647 = omega (arith, ints, clamps, is) in
    fits made above below ∙ same
  where
    fits : (m : ℤ) → negsuc 2147483647 ≤ℤ m → m ≤ℤ pos 2147483647 → to_z w32 (of_z w32 (to_z w64 (of_z w64 m))) ≡ m
    fits m above below = omega (arith, ints)

-- a part of a list reaches no further than the list
slice-within : {A : Type 0} (xs : List A) (i j n : ℕ) → n ≡ length xs → slice_range xs i j ≡ slice_range xs (min i n) (min j n)
slice-within xs i j n n-is =
    let first : drop i xs ≡ drop (min i n) xs = rw n-is (sym (drop_min i xs)) in
    sym (take_min (j - i) (drop i xs))
    ∙ ap (λ (t : ℕ). take t (drop i xs)) (omega (arith, n-is, length-drop i xs))
    ∙ take_min (min j n - min i n) (drop i xs)
    ∙ ap (take (min j n - min i n)) first

-- a window of the cut bar has the same samples
samples_between-cut : {A : Type 0} (xs : List A) (a b : ℤ) (i n : ℕ) → n ≡ length xs → i < n
    → samples_between xs (pos i +ℤ cut_to n a) (pos i +ℤ cut_to n b) ≡ samples_between xs (pos i +ℤ a) (pos i +ℤ b)
samples_between-cut xs a b i n n-is lt =
    let first : min (nonnegative (pos i +ℤ cut_to n a)) n ≡ min (nonnegative (pos i +ℤ a)) n = omega (arith, ints, clamps, nonnegative_is (pos i +ℤ cut_to n a), nonnegative_is (pos i +ℤ a)) in
    let last : min (nonnegative (pos i +ℤ cut_to n b +ℤ pos 1)) n ≡ min (nonnegative (pos i +ℤ b +ℤ pos 1)) n = omega (arith, ints, clamps, nonnegative_is (pos i +ℤ cut_to n b +ℤ pos 1), nonnegative_is (pos i +ℤ b +ℤ pos 1)) in
    slice-within xs (nonnegative (pos i +ℤ cut_to n a)) (nonnegative (pos i +ℤ cut_to n b +ℤ pos 1)) n n-is
    ∙ ap (λ (t : ℕ). slice_range xs t (min (nonnegative (pos i +ℤ cut_to n b +ℤ pos 1)) n)) first
    ∙ ap (λ (t : ℕ). slice_range xs (min (nonnegative (pos i +ℤ a)) n) t) last
    ∙ sym (slice-within xs (nonnegative (pos i +ℤ a)) (nonnegative (pos i +ℤ b +ℤ pos 1)) n n-is)

pub line_at-cut_by : {A : Type 0} (f : A → A → A) (neutral x : A) (xs : List A) (a b first last : ℤ) (i : ℕ) → first ≡ cut_to (length xs) a → last ≡ cut_to (length xs) b → i < length xs
    → x ≡ line_at f neutral xs first last i → x ≡ line_at f neutral xs a b i
line_at-cut_by f neutral x xs a b first last i first-is last-is lt x-is =
    x-is
    ∙ ap (λ (t : ℤ). line_at f neutral xs t last i) first-is
    ∙ ap (λ (t : ℤ). line_at f neutral xs (cut_to (length xs) a) t i) last-is
    ∙ ap (fold f neutral) (samples_between-cut xs a b i (length xs) refl lt)

pub few_combines : (n : ℕ) (a b first last : ℤ) (before after : ℕ) → a ≤ℤ b → first ≡ cut_to n a → last ≡ cut_to n b → after ≡ before + combines n (span first last)
    → after ≤ before + (3 * n + span a b)
few_combines n a b first last before after le first-is last-is after-is =
    let is : after ≡ before + combines n (places_within n a b) = after-is ∙ ap (λ (t : ℤ). before + combines n (span t last)) first-is ∙ ap (λ (t : ℤ). before + combines n (span (cut_to n a) t)) last-is in
    let some = size_positive (cut_to n a) (cut_to n b) (cut-ordered n a b le) in
    omega (arith, is, combines-most n (places_within n a b) some, places-cut n a b le)
