-- Levels that are numbered in their order.
use Rattle.std.specs.Prelude.{◌≡◌, ℕ, ◌+◌, ◌*◌, ◌<◌, List, length, slice_index, slice_index_or}
use Rattle.mw_model.specs.Windows.{View}
use Rattle.mw_rank_numbers.specs.declared.numbering.Part.{Part}

-- the level in a column and row of a part of a window
abbrev pub level_in_part : {A : Type 0} → (A → ℕ) → A → View A → Part → ℕ → ℕ → ℕ
level_in_part level d w part i j = level (slice_index_or w.cells ((part.row + j) * w.place.width + (part.column + i)) d)

-- the level has a number below that of each greater one, and at its number the list has it
pub record IsNumbered {A : Type 0} (level : A → ℕ) (number : ℕ → ℕ) (levels : List A) (s : ℕ) : Type 0 where
  pub above : (t : ℕ) → s < t → number s < number t
  pub back : (d : A) → level (slice_index_or levels (number s) d) ≡ s

-- the numbers of a part of a window, by rows; level 0 has number 0
pub record IsNumbering {A : Type 0} (level : A → ℕ) (d : A) (number : ℕ → ℕ) (levels : List A) (w : View A) (part : Part) (numbers : List ℕ) : Type 0 where
  pub lowest : number 0 ≡ 0
  pub zero : IsNumbered level number levels 0
  pub size : length numbers ≡ part.height * part.width
  pub each : (i j : ℕ) → i < part.width → j < part.height → slice_index numbers (j * part.width + i) ≡ number (level_in_part level d w part i j)
  pub numbered : (i j : ℕ) → i < part.width → j < part.height → IsNumbered level number levels (level_in_part level d w part i j)
