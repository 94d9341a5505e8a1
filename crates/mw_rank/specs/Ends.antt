-- Where the samples stand that leave and enter as an element moves along a row.
use Rattle.std.specs.Prelude.{◌≡◌, ℕ, ◌+◌, ◌-◌, ◌<◌, ◌≤◌, List, [], ◌∷◌, ◌++◌, map, length, slice_index_or}
use Rattle.std.specs.List.{flat_map}
use Rattle.mw_model.specs.Rasters.{Sight}
use Rattle.mw_rank.specs.Ranks.{levels_at}
use Rattle.mw_rank.specs.declared.ends.Ends.{Ends}
use Rattle.mw_element_runs.specs.declared.runs.Run.{Run}
use Rattle.mw_element_runs.specs.Runs.{start_offset}

-- the levels at the first places of runs, so many columns further on
abbrev pub levels_left : {A : Type 0} → (A → ℕ) → A → List A → List Ends → ℕ → List ℕ
levels_left level d samples ends i = map (λ (e : Ends). level (slice_index_or samples (e.first + i) d)) ends

-- the levels at the places after the last ones of runs, so many columns further on
abbrev pub levels_entered : {A : Type 0} → (A → ℕ) → A → List A → List Ends → ℕ → List ℕ
levels_entered level d samples ends i = map (λ (e : Ends). level (slice_index_or samples (e.next + i) d)) ends

-- what is seen at the first offsets of runs
abbrev pub first_seen : {A : Type 0} → (A → ℕ) → Sight A → List Run → ℕ → ℕ → List ℕ
first_seen level sight runs x y = flat_map (λ (r : Run). levels_at level sight (start_offset r) x y) runs

-- what is seen one place after the last offsets of runs
abbrev pub next_seen : {A : Type 0} → (A → ℕ) → Sight A → List Run → ℕ → ℕ → List ℕ
next_seen level sight runs x y = flat_map (λ (r : Run). levels_at level sight (start_offset r) (x + 1 + (r.count - 1)) y) runs

-- the ends have their samples for n columns on
pub record HasEnds {A : Type 0} (samples : List A) (n : ℕ) (ends : List Ends) : Type 0 where
  pub first : (q : ℕ) (e : Ends) → q < length ends → (slice_index_or ends q e).first + n ≤ length samples
  pub next : (q : ℕ) (e : Ends) → q < length ends → (slice_index_or ends q e).next + n ≤ length samples

-- for n columns of row y from x on, the ends show all that leaves and enters
pub record AreEnds {A : Type 0} (level : A → ℕ) (d : A) (sight : Sight A) (samples : List A) (runs : List Run) (x y n : ℕ) (ends : List Ends) : Type 0 where
  pub inside : HasEnds samples n ends
  pub first : (i : ℕ) → i < n → levels_left level d samples ends i ≡ first_seen level sight runs (x + i) y
  pub next : (i : ℕ) → i < n → levels_entered level d samples ends i ≡ next_seen level sight runs (x + i) y

-- the list has got the ends of one more run
pub record AddsEnds {A : Type 0} (level : A → ℕ) (d : A) (sight : Sight A) (samples : List A) (run : Run) (x y n : ℕ) (old new : List Ends) : Type 0 where
  pub added : List Ends
  pub is : new ≡ old ++ added
  pub are : AreEnds level d sight samples (run ∷ []) x y n added
