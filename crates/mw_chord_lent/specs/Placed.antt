-- Places at which chords that make up runs stand in lists.
use Rattle.std.specs.Prelude.{◌≡◌, ℕ, ◌+◌, ◌-◌, ◌*◌, ◌<◌, ◌≤◌, nat_lt, cond, fold, List, [], ◌∷◌, ◌++◌, length, slice_index_or}
use Rattle.mw_offset.specs.mw_element_runs.declared.runs.Run.{Run}
use Rattle.mw_offset.specs.mw_element_runs.declared.runs.Extent.{Extent}
use Rattle.mw_offset.specs.mw_element_runs.Runs.{start_of}

-- a value merged with the samples that stand q places after each of the places
abbrev pub gathered_at : {A : Type 0} → (A → A → A) → List A → A → ℕ → A → List ℕ → A
gathered_at merge cells d q best places = fold (λ b p. merge b (slice_index_or cells (p + q) d)) best places

-- a place, and another so much further on, if there is more
abbrev pub one_or_two : ℕ → ℕ → List ℕ
one_or_two start more = start ∷ cond (nat_lt 0 more) ((start + more) ∷ []) []

-- the run is one chord of a list, or the first and the last of its chords
pub record IsRunPlaced (sizes : List ℕ) (span : ℕ) (e : Extent) (wide : ℕ) (r : Run) (places : List ℕ) : Type 0 where
  pub list : ℕ
  pub inside : list < length sizes
  pub within : slice_index_or sizes list 0 ≤ r.count
  pub twice : r.count ≤ 2 * slice_index_or sizes list 0
  pub places_are : places ≡ one_or_two (list * span + start_of e wide r) (r.count - slice_index_or sizes list 0)

-- the places are those of each run, one after another
abbrev pub ArePlaced : List ℕ → ℕ → Extent → ℕ → List Run → List ℕ → Type 0
ArePlaced sizes span e wide [] places = places ≡ []
ArePlaced sizes span e wide (r ∷ rs) places = (a : List ℕ) × (b : List ℕ) × (places ≡ a ++ b) × (IsRunPlaced sizes span e wide r a) × (ArePlaced sizes span e wide rs b)
