-- A rank of numbers is the number of the rank.
use Rattle.std.proofs.Common.{◌≡◌, ℕ, zero, suc, ℤ, pos, ◌+ℤ◌, ◌+◌, ◌-◌, ◌<◌, ◌≤◌, List, [], ◌∷◌, ◌++◌, map, length, get_or, min, inl, inr, refl, ap, sym, arith, subst, ◌∙◌}
use Rattle.std.specs.List.{AllByRecursion}
use Rattle.std.specs.Option.{option_to_list}
use Rattle.std.specs.Prelude.{nat_le}
use Rattle.std.proofs.lemmas.Bool.{cases_Bool, cases_lt, cases_eq, lt-leb, le-leb}
use Rattle.std.proofs.lemmas.Int.{ints}
use Rattle.std.proofs.lemmas.List.{length-map, map-append}
use Rattle.mw_model.specs.declared.offsets.Offset.{Offset}
use Rattle.mw_model.specs.Flat.{put_in_order, in_rising_order}
use Rattle.mw_model.specs.PlanSteps.{ranked}
use Rattle.mw_model.specs.Rasters.{Sight}
use Rattle.mw_model.proofs.mw_facts.Alls.{all-append}
use Rattle.mw_rank.specs.Ranks.{levels_under, levels_at}
use Rattle.mw_rank.specs.Runs.{offsets_from, next_offset}
use Rattle.mw_rank.proofs.Sights.{levels-cons}
use Rattle.mw_rank_numbers.specs.Numbers.{IsNumbered}
use lib.ListN.{get_or-map}

-- a level of two that are numbered is not above the other where its number is not
same_order : {A : Type 0} (level : A → ℕ) (number : ℕ → ℕ) (levels : List A) (m t : ℕ) → IsNumbered level number levels m → IsNumbered level number levels t → nat_le (number m) (number t) ≡ nat_le m t
same_order level number levels m t has also =
    elim (cases_lt t m) [
      | inl more ↦ lt-leb (number m) (number t) (also.above m more) ∙ sym (lt-leb m t more)
      | inr le ↦ le-leb (number m) (number t) (not_more le) ∙ sym (le-leb m t le)
    ]
  where
    not_more : m ≤ t → number m ≤ number t
    not_more le = elim (cases_eq m t) [
      | inl e ↦ let same = ap number e in omega (arith, same)
      | inr other ↦ let lt = has.above t (omega (arith, other)) in omega (arith, lt)
    ]

put_numbered : {A : Type 0} (level : A → ℕ) (number : ℕ → ℕ) (levels : List A) (m : ℕ) (ms : List ℕ) → IsNumbered level number levels m → AllByRecursion (IsNumbered level number levels) ms → AllByRecursion (IsNumbered level number levels) (put_in_order m ms)
put_numbered level number levels m [] has all = (has, tt)
put_numbered level number levels m (t ∷ ts) has all =
    elim (cases_Bool (nat_le m t)) [
      | inl e ↦ rw e (has, all)
      | inr e ↦ rw e (all.0, put_numbered level number levels m ts has all.1)
    ]

order_numbered : {A : Type 0} (level : A → ℕ) (number : ℕ → ℕ) (levels : List A) (ms : List ℕ) → AllByRecursion (IsNumbered level number levels) ms → AllByRecursion (IsNumbered level number levels) (in_rising_order ms)
order_numbered level number levels [] all = tt
order_numbered level number levels (m ∷ ms) all = put_numbered level number levels m (in_rising_order ms) all.0 (order_numbered level number levels ms all.1)

put_numbers : {A : Type 0} (level : A → ℕ) (number : ℕ → ℕ) (levels : List A) (m : ℕ) (ms : List ℕ) → IsNumbered level number levels m → AllByRecursion (IsNumbered level number levels) ms → put_in_order (number m) (map number ms) ≡ map number (put_in_order m ms)
put_numbers level number levels m [] has all = refl
put_numbers level number levels m (t ∷ ts) has all =
    let same = same_order level number levels m t has all.0 in
    elim (cases_Bool (nat_le m t)) [
      | inl e ↦ rw (same, e) refl
      | inr e ↦ rw (same, e) (ap (λ (l : List ℕ). number t ∷ l) (put_numbers level number levels m ts has all.1))
    ]

order_numbers : {A : Type 0} (level : A → ℕ) (number : ℕ → ℕ) (levels : List A) (ms : List ℕ) → AllByRecursion (IsNumbered level number levels) ms → in_rising_order (map number ms) ≡ map number (in_rising_order ms)
order_numbers level number levels [] all = refl
order_numbers level number levels (m ∷ ms) all =
    ap (put_in_order (number m)) (order_numbers level number levels ms all.1) ∙ put_numbers level number levels m (in_rising_order ms) all.0 (order_numbered level number levels ms all.1)

all_or : (P : ℕ → Type 0) (ns : List ℕ) (i : ℕ) → P 0 → AllByRecursion P ns → P (get_or ns i 0)
all_or P [] i none all = none
all_or P (n ∷ ns) zero none all = all.0
all_or P (n ∷ ns) (suc i) none all = all_or P ns i none all.1

-- numbers are those of levels that are numbered
pub record AreNumbers {A : Type 0} (level : A → ℕ) (number : ℕ → ℕ) (levels : List A) (ns ms : List ℕ) : Type 0 where
  pub is : ns ≡ map number ms
  pub all : AllByRecursion (IsNumbered level number levels) ms

-- the level at a rank of numbers is the rank of their levels
pub rank_back : {A : Type 0} (level : A → ℕ) (number : ℕ → ℕ) (levels : List A) (ns ms : List ℕ) (k r : ℕ) (d : A) → number 0 ≡ 0 → IsNumbered level number levels 0 → AreNumbers level number levels ns ms → r ≡ ranked k ns → level (get_or levels r d) ≡ ranked k ms
rank_back level number levels ns ms k r d lowest none are r-is =
    let place = min k (length ms) - 1 in
    let here : r ≡ number (ranked k ms) =
    r-is
    ∙ ap (ranked k) are.is
    ∙ ap (λ (n : ℕ). get_or (in_rising_order (map number ms)) (min k n - 1) 0) (length-map ms number)
    ∙ ap (λ (l : List ℕ). get_or l place 0) (order_numbers level number levels ms are.all)
    ∙ ap (get_or (map number (in_rising_order ms)) place) (sym lowest)
    ∙ get_or-map number (in_rising_order ms) place 0 in
    let numbered = all_or (IsNumbered level number levels) (in_rising_order ms) place none (order_numbered level number levels ms are.all) in
    ap (λ (n : ℕ). level (get_or levels n d)) here ∙ numbered.back d

pub no_numbers : {A : Type 0} (level : A → ℕ) (number : ℕ → ℕ) (levels : List A) → AreNumbers level number levels [] []
no_numbers level number levels = record { is = refl; all = tt }

pub numbers_append : {A : Type 0} (level : A → ℕ) (number : ℕ → ℕ) (levels : List A) (ns ms ps qs : List ℕ) → AreNumbers level number levels ns ms → AreNumbers level number levels ps qs → AreNumbers level number levels (ns ++ ps) (ms ++ qs)
numbers_append level number levels ns ms ps qs these those = record {
  is = ap (λ (l : List ℕ). l ++ ps) these.is ∙ ap (λ (l : List ℕ). map number ms ++ l) those.is ∙ sym (map-append number ms qs);
  all = all-append (IsNumbered level number levels) ms qs these.all those.all;
}

-- in a column and row of the frame, what is seen of numbers is that of what is seen of levels
abbrev pub SeesNumbers : {A : Type 0} → (A → ℕ) → (ℕ → ℕ) → List A → Sight A → Sight ℕ → ℤ → ℤ → Type 0
SeesNumbers level number levels sight seen column row = AreNumbers level number levels (map (λ n. n) (option_to_list (seen column row))) (map level (option_to_list (sight column row)))

-- so it is under offsets of one row
pub row_numbers : {A : Type 0} (level : A → ℕ) (number : ℕ → ℕ) (levels : List A) (sight : Sight A) (seen : Sight ℕ) (b : Offset) (c x y : ℕ) → ((i : ℕ) → i < c → SeesNumbers level number levels sight seen (pos x +ℤ (b.dx +ℤ pos i)) (pos y +ℤ b.dy))
    → AreNumbers level number levels (levels_under (λ n. n) seen (offsets_from b c) x y) (levels_under level sight (offsets_from b c) x y)
row_numbers level number levels sight seen b zero x y sees = no_numbers level number levels
row_numbers level number levels sight seen b (suc c) x y sees =
    let first : SeesNumbers level number levels sight seen (pos x +ℤ b.dx) (pos y +ℤ b.dy) =
    subst (λ (z : ℤ). SeesNumbers level number levels sight seen z (pos y +ℤ b.dy)) (let e : pos x +ℤ (b.dx +ℤ pos 0) ≡ pos x +ℤ b.dx = omega (arith, ints) in e) (sees 0 (omega arith)) in
    let rest = row_numbers level number levels sight seen (next_offset b) c x y
    (λ i lt. subst (λ (z : ℤ). SeesNumbers level number levels sight seen z (pos y +ℤ b.dy)) (let e : pos x +ℤ (b.dx +ℤ pos (i + 1)) ≡ pos x +ℤ (b.dx +ℤ pos 1 +ℤ pos i) = omega (arith, ints) in e) (sees (i + 1) (omega arith))) in
    let both = numbers_append level number levels (levels_at (λ n. n) seen b x y) (levels_at level sight b x y) (levels_under (λ n. n) seen (offsets_from (next_offset b) c) x y) (levels_under level sight (offsets_from (next_offset b) c) x y) first rest in
    subst (λ (l : List ℕ). AreNumbers level number levels l (levels_under level sight (offsets_from b (suc c)) x y)) (sym (levels-cons (λ n. n) seen b (offsets_from (next_offset b) c) x y))
    (subst (λ (l : List ℕ). AreNumbers level number levels (levels_at (λ n. n) seen b x y ++ levels_under (λ n. n) seen (offsets_from (next_offset b) c) x y) l) (sym (levels-cons level sight b (offsets_from (next_offset b) c) x y)) both)
