-- Numbers in rising order, and the rank filter.
use Rattle.std.proofs.Common.{◌≡◌, ℕ, zero, suc, ◌-◌, ◌<◌, ◌≤◌, List, [], ◌∷◌, length, get_or, min, refl, sym, subst, arith, inl, inr}
use Rattle.std.specs.Prelude.{nat_le, nat_lt, count_by}
use Rattle.std.specs.List.{AllByRecursion, Contains}
use Rattle.std.specs.List.Sorted.{IsNonDecreasing, IsPermutation}
use Rattle.std.proofs.lemmas.Bool.{cases_Bool, leb-true, leb-false, le-leb, le-ltb}
use Rattle.std.proofs.lemmas.List.Elements.{Contains-get_or}
use Rattle.std.proofs.lemmas.List.Sums.{sum_by-cons}
use Rattle.std.proofs.lemmas.List.Sorted.{IsPermutation-refl, IsPermutation-cons, IsPermutation-sym, IsPermutation-trans, IsPermutation-swap, length_permutation, Contains-permutation, sum_by-IsPermutation}
use Rattle.mw_facts.proofs.Alls.{all-get_or, all-weaker}
use Rattle.mw_facts.proofs.Numbers.{one_if, one_if-le}
use Rattle.mw_model.specs.declared.offsets.Offset.{Offset}
use Rattle.mw_model.specs.Pictures.{Picture, sample}
use Rattle.mw_model.specs.Flat.{under, rank, put_in_order, in_rising_order}
use Rattle.mw_model.proofs.ImagePlaces.{sample-redrawn}

-- each number is at most those behind it
abbrev Rises : List ℕ → Type 0
Rises [] = Unit {0}
Rises (n ∷ ns) = AllByRecursion (λ m. n ≤ m) ns × Rises ns

put_above : (low n : ℕ) (ns : List ℕ) → low ≤ n → AllByRecursion (λ m. low ≤ m) ns → AllByRecursion (λ m. low ≤ m) (put_in_order n ns)
put_above low n [] le all = (le, tt)
put_above low n (m ∷ ms) le all =
    elim (cases_Bool (nat_le n m)) [
      | inl e ↦ rw e (le, all)
      | inr e ↦ rw e (all.0, put_above low n ms le all.1)
    ]

put_rises : (n : ℕ) (ns : List ℕ) → Rises ns → Rises (put_in_order n ns)
put_rises n [] rises = (tt, tt)
put_rises n (m ∷ ms) rises =
    elim (cases_Bool (nat_le n m)) [
      | inl e ↦ let le = leb-true n m e in rw e ((le, all-weaker (λ k. m ≤ k) (λ k. n ≤ k) ms (λ k up. omega (arith, le, up)) rises.0), rises)
      | inr e ↦ let lt = leb-false n m e in rw e (put_above m n ms (omega arith) rises.0, put_rises n ms rises.1)
    ]

ordered_rises : (ns : List ℕ) → Rises (in_rising_order ns)
ordered_rises [] = tt
ordered_rises (n ∷ ns) = put_rises n (in_rising_order ns) (ordered_rises ns)

rises_between : (ns : List ℕ) (i j d : ℕ) → Rises ns → i ≤ j → j < length ns → get_or ns i d ≤ get_or ns j d
rises_between [] i j d rises le lt = absurd (omega arith)
rises_between (n ∷ ns) zero zero d rises le lt = omega arith
rises_between (n ∷ ns) zero (suc j) d rises le lt = all-get_or (λ m. n ≤ m) ns j d (omega arith) rises.0
rises_between (n ∷ ns) (suc i) zero d rises le lt = absurd (omega arith)
rises_between (n ∷ ns) (suc i) (suc j) d rises le lt = rises_between ns i j d rises.1 (omega arith) (omega arith)

pub ordered_sorted : (ns : List ℕ) → IsNonDecreasing (in_rising_order ns)
ordered_sorted ns = λ i j d le lt. rises_between (in_rising_order ns) i j d (ordered_rises ns) le lt

put_permutes : (n : ℕ) (ns : List ℕ) → IsPermutation (n ∷ ns) (put_in_order n ns)
put_permutes n [] = IsPermutation-refl (n ∷ [])
put_permutes n (m ∷ ms) =
    elim (cases_Bool (nat_le n m)) [
      | inl e ↦ rw e (IsPermutation-refl (n ∷ m ∷ ms))
      | inr e ↦
          let swapped : IsPermutation (n ∷ m ∷ ms) (m ∷ n ∷ ms) = IsPermutation-swap (n ∷ m ∷ ms) (m ∷ n ∷ ms) 0 1 (omega arith) (omega arith) refl in
          rw e (IsPermutation-trans (n ∷ m ∷ ms) (m ∷ n ∷ ms) (m ∷ put_in_order n ms) swapped (IsPermutation-cons m (n ∷ ms) (put_in_order n ms) (put_permutes n ms)))
    ]

pub ordered_permutes : (ns : List ℕ) → IsPermutation ns (in_rising_order ns)
ordered_permutes [] = IsPermutation-refl []
ordered_permutes (n ∷ ns) =
    IsPermutation-trans (n ∷ ns) (n ∷ in_rising_order ns) (put_in_order n (in_rising_order ns)) (IsPermutation-cons n ns (in_rising_order ns) (ordered_permutes ns)) (put_permutes n (in_rising_order ns))

none_below : (low : ℕ) (ns : List ℕ) → AllByRecursion (λ m. low ≤ m) ns → count_by (λ s. nat_lt s low) ns ≡ 0
none_below low [] all = refl
none_below low (n ∷ ns) all =
    let here : one_if (nat_lt n low) ≡ 0 = rw (le-ltb n low all.0) refl in
    omega (arith, sum_by-cons (λ s. one_if (nat_lt s low)) n ns, none_below low ns all.1)

-- of numbers in rising order at most i are below number i, counted from 0
below_place : (ns : List ℕ) (i : ℕ) → Rises ns → i < length ns → count_by (λ s. nat_lt s (get_or ns i 0)) ns ≤ i
below_place [] i rises lt = absurd (omega arith)
below_place (n ∷ ns) zero rises lt =
    let first = sum_by-cons (λ s. one_if (nat_lt s n)) n ns in
    let here : one_if (nat_lt n n) ≡ 0 = rw (le-ltb n n (omega arith)) refl in
    omega (arith, first, here, none_below n ns rises.0)
below_place (n ∷ ns) (suc i) rises lt =
    let r = get_or ns i 0 in
    let first = sum_by-cons (λ s. one_if (nat_lt s r)) n ns in
    omega (arith, first, one_if-le (nat_lt n r), below_place ns i rises.1 (omega arith))

-- of numbers in rising order at least i + 1 are not above number i, counted from 0
up_to_place : (ns : List ℕ) (i : ℕ) → Rises ns → i < length ns → i < count_by (λ s. nat_le s (get_or ns i 0)) ns
up_to_place [] i rises lt = absurd (omega arith)
up_to_place (n ∷ ns) zero rises lt =
    let first = sum_by-cons (λ s. one_if (nat_le s n)) n ns in
    let here : one_if (nat_le n n) ≡ 1 = rw (le-leb n n (omega arith)) refl in
    omega (arith, first, here)
up_to_place (n ∷ ns) (suc i) rises lt =
    let r = get_or ns i 0 in
    let first = sum_by-cons (λ s. one_if (nat_le s r)) n ns in
    let le = all-get_or (λ m. n ≤ m) ns i 0 (omega arith) rises.0 in
    let here : one_if (nat_le n r) ≡ 1 = rw (le-leb n r le) refl in
    omega (arith, first, here, up_to_place ns i rises.1 (omega arith))

-- number i of the numbers in rising order, counted from 0
module _ (ns : List ℕ) (i : ℕ) (lt : i < length ns) where
  abbrev chosen : ℕ
  chosen = get_or (in_rising_order ns) i 0

  inside : i < length (in_rising_order ns)
  inside = omega (arith, length_permutation ns (in_rising_order ns) (ordered_permutes ns))

  pub chosen_among : Contains ns chosen
  chosen_among =
      Contains-permutation (in_rising_order ns) ns chosen (IsPermutation-sym ns (in_rising_order ns) (ordered_permutes ns))
      (Contains-get_or (in_rising_order ns) i 0 inside)

  pub few_below : count_by (λ s. nat_lt s chosen) ns ≤ i
  few_below =
      omega (arith, sum_by-IsPermutation (λ s. one_if (nat_lt s chosen)) ns (in_rising_order ns) (ordered_permutes ns), below_place (in_rising_order ns) i (ordered_rises ns) inside)

  pub enough_up_to : i < count_by (λ s. nat_le s chosen) ns
  enough_up_to =
      omega (arith, sum_by-IsPermutation (λ s. one_if (nat_le s chosen)) ns (in_rising_order ns) (ordered_permutes ns), up_to_place (in_rising_order ns) i (ordered_rises ns) inside)

-- the rank filter at a place with a sample under the element
module _ (b : List Offset) (k : ℕ) (f : Picture) (x y : ℕ) (across : x < f.width) (down : y < f.height) (first : 1 ≤ k) (some : 1 ≤ length (under f b x y)) where
  abbrev found : List ℕ
  found = under f b x y

  abbrev place : ℕ
  place = min k (length found) - 1

  within : place < length found
  within = omega arith

  is : sample (rank b k f) x y ≡ get_or (in_rising_order found) place 0
  is = sample-redrawn f (λ x y. let found = under f b x y in get_or (in_rising_order found) (min k (length found) - 1) 0) x y across down

  pub rank_among : Contains (under f b x y) (sample (rank b k f) x y)
  rank_among = subst (Contains found) (sym is) (chosen_among found place within)

  pub rank_few_below : count_by (λ s. nat_lt s (sample (rank b k f) x y)) (under f b x y) < min k (length (under f b x y))
  rank_few_below =
      subst (λ (r : ℕ). count_by (λ s. nat_lt s r) found < min k (length found)) (sym is) (omega (arith, few_below found place within))

  pub rank_enough_up_to : min k (length (under f b x y)) ≤ count_by (λ s. nat_le s (sample (rank b k f) x y)) (under f b x y)
  rank_enough_up_to =
      subst (λ (r : ℕ). min k (length found) ≤ count_by (λ s. nat_le s r) found) (sym is) (omega (arith, enough_up_to found place within))
