-- Columns of extrema that grow row by row.
use Rattle.std.specs.Prelude.{◌≡◌, ℕ, ◌+◌, ◌-◌, ◌*◌, ◌<◌, ◌≤◌, ◌^◌, List, slice_index_or}
use Rattle.mw_line.specs.Extrema.{over}

-- In `count` rows of `width` samples each sample is the extremum of the values in its column from its row on: of k values
-- where there are so many rows from it on, and else of the greatest power of 2 that there are.
pub record IsGrown {A : Type 0} (merge : A → A → A) (value : ℕ → ℕ → A) (d : A) (width k count : ℕ) (rows : List A) : Type 0 where
  pub part : (i x y : ℕ) → x < width → y < count → 2 ^ i ≤ count - y → count - y < 2 * 2 ^ i → count - y < k
      → slice_index_or rows (y * width + x) d ≡ over merge (value x) y (2 ^ i - 1)
  pub whole : (x y : ℕ) → x < width → y + k ≤ count → slice_index_or rows (y * width + x) d ≡ over merge (value x) y (k - 1)
