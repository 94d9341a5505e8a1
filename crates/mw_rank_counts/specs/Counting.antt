-- Levels at places of a window, and the steps of a search for one of them by counting.
use Rattle.std.specs.Prelude.{◌≡◌, ℕ, ◌+◌, ◌<◌, ◌≤◌, ◌^◌, List, ◌∷◌, [], ◌++◌, map, length, nat_lt, cond, slice_index_or}
use Rattle.mw_model.specs.declared.offsets.Offset.{Offset}
use Rattle.mw_model.specs.Rasters.{Sight}
use Rattle.mw_rank.specs.Ranks.{levels_under}
use Rattle.mw_rank.specs.Tallies.{count_under}

-- the levels at places, so many columns further on
abbrev pub levels_on : {A : Type 0} → (A → ℕ) → A → List A → List ℕ → ℕ → List ℕ
levels_on level d samples places i = map (λ (p : ℕ). level (slice_index_or samples (p + i) d)) places

-- n samples stand from each place on
abbrev pub HasPlaces : {A : Type 0} → List A → ℕ → List ℕ → Type 0
HasPlaces samples n places = (q : ℕ) → q < length places → slice_index_or places q 0 + n ≤ length samples

-- the levels of all samples are below the limit
abbrev pub AllUnder : {A : Type 0} → (A → ℕ) → A → List A → ℕ → Type 0
AllUnder level d samples limit = (i : ℕ) → i < length samples → level (slice_index_or samples i d) < limit

-- for n columns of row y from x on, the places show all that is seen under the element
pub record ArePlaces {A : Type 0} (level : A → ℕ) (d : A) (sight : Sight A) (samples : List A) (element : List Offset) (x y n : ℕ) (places : List ℕ) : Type 0 where
  pub inside : HasPlaces samples n places
  pub seen : (i : ℕ) → i < n → levels_on level d samples places i ≡ levels_under level sight element (x + i) y
  pub few : length places ≤ length element

-- the list has got the place of one more offset, where it has one
pub record AddsPlace {A : Type 0} (level : A → ℕ) (d : A) (sight : Sight A) (samples : List A) (offset : Offset) (x y n : ℕ) (old new : List ℕ) : Type 0 where
  pub added : List ℕ
  pub is : new ≡ old ++ added
  pub are : ArePlaces level d sight samples (offset ∷ []) x y n added

-- at all places, so many of 32 columns on, the levels are not below the column's own, and below it and the range
pub record AreFrom {A : Type 0} (level : A → ℕ) (d : A) (samples : List A) (places : List ℕ) (range : ℕ) (found : List A) : Type 0 where
  pub low : (q i : ℕ) → q < length places → i < 32 → level (slice_index_or found i d) ≤ level (slice_index_or samples (slice_index_or places q 0 + i) d)
  pub high : (q i : ℕ) → q < length places → i < 32 → level (slice_index_or samples (slice_index_or places q 0 + i) d) < level (slice_index_or found i d) + range

-- the level that is looked for is not below v, and not above it by more than the range
pub record IsBetween (n v range : ℕ) (ns : List ℕ) : Type 0 where
  pub few : count_under v ns < n
  pub enough : n ≤ count_under (v + range) ns

-- 32 searches with so many bits left
abbrev pub AreBetween : {A : Type 0} → (A → ℕ) → A → List A → List ℕ → ℕ → ℕ → List A → Type 0
AreBetween level d samples places n bits found = (i : ℕ) → i < 32 → IsBetween n (level (slice_index_or found i d)) (2 ^ bits) (levels_on level d samples places i)

-- a level, raised where fewer than n of the levels are below it then
abbrev pub raised : ℕ → ℕ → List ℕ → ℕ → ℕ
raised step n ns v = cond (nat_lt (count_under (v + step) ns) n) (v + step) v
