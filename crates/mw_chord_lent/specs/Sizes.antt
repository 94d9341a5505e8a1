-- Lengths of chords, each made of the one before.
use Rattle.std.specs.Prelude.{◌≡◌, ℕ, ◌+◌, ◌*◌, ◌<◌, ◌≤◌, List, length, slice_index_or}

-- the first length is 1, and each is at most twice the one before it
pub record AreSizes (sizes : List ℕ) : Type 0 where
  pub some : 0 < length sizes
  pub first : slice_index_or sizes 0 0 ≡ 1
  pub more : (j : ℕ) → j + 1 < length sizes → slice_index_or sizes j 0 < slice_index_or sizes (j + 1) 0
  pub twice : (j : ℕ) → j + 1 < length sizes → slice_index_or sizes (j + 1) 0 ≤ 2 * slice_index_or sizes j 0

-- a chain of lengths up to so many, of which twice the last one is more
pub record AreSizesTo (longest : ℕ) (sizes : List ℕ) : Type 0 where
  pub chain : AreSizes sizes
  pub within : (j : ℕ) → j < length sizes → slice_index_or sizes j 0 ≤ longest
  pub last : (j : ℕ) → j + 1 ≡ length sizes → longest < 2 * slice_index_or sizes j 0
