-- Columns of samples that stand in rows of one length.
use Rattle.std.specs.Prelude.{◌≡◌, ℕ, zero, suc, ◌+◌, ◌*◌, ◌<◌, List, length, slice_index_or}
use Rattle.mw_rank_medians.specs.Numbered.{below, IsNthLevel}

-- the sum of the first values
abbrev pub sum_to : (ℕ → ℕ) → ℕ → ℕ
sum_to f zero = 0
sum_to f (suc n) = sum_to f n + f n

-- the level in a row and column from a place on
abbrev pub cell_from : {A : Type 0} → (A → ℕ) → A → List A → ℕ → ℕ → ℕ → ℕ → ℕ
cell_from level d samples from stride r j = level (slice_index_or samples (from + r * stride + j) d)

-- how many samples of the first rows of a column are below t
abbrev pub column_below : {A : Type 0} → (A → ℕ) → A → List A → ℕ → ℕ → ℕ → ℕ → ℕ → ℕ
column_below level d samples from stride rows j t = sum_to (λ r. below (cell_from level d samples from stride r j) t) rows

-- how many samples of so many rows and columns from column j on are below t
abbrev pub block_below : {A : Type 0} → (A → ℕ) → A → List A → ℕ → ℕ → ℕ → ℕ → ℕ → ℕ
block_below level d samples from stride side j t = sum_to (λ c. column_below level d samples from stride side (j + c) t) side

-- the list has got n samples more: each is number k of the block of so many rows and columns that begins in its column
pub record GainsMedians {A : Type 0} (level : A → ℕ) (d : A) (samples : List A) (from stride side k n : ℕ) (old new : List A) : Type 0 where
  pub size : length new ≡ length old + n
  pub kept : (p : ℕ) (e : A) → p < length old → slice_index_or new p e ≡ slice_index_or old p e
  pub made : (i : ℕ) → i < n → IsNthLevel (block_below level d samples from stride side i) k (level (slice_index_or new (length old + i) d))
