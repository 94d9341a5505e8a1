-- Lists of chords, one behind another in one array.
use Rattle.std.specs.Prelude.{◌≡◌, ℕ, ◌+◌, ◌-◌, ◌*◌, ◌<◌, ◌≤◌, List, length, slice_index_or}
use Rattle.mw_line.specs.Extrema.{strided}

-- From place `from` on list number j has the extrema of as many of the n cells as size number j says; the first list has the
-- cells. Each list has room for `span` samples.
pub record AreGrown {A : Type 0} (merge : A → A → A) (cells lists : List A) (sizes : List ℕ) (span n from : ℕ) : Type 0 where
  pub first : (p : ℕ) (d : A) → p < n → slice_index_or lists p d ≡ slice_index_or cells p d
  pub rest : (j p : ℕ) (d : A) → 0 < j → j < length sizes → from ≤ p → p + slice_index_or sizes j 0 ≤ n
      → slice_index_or lists (j * span + p) d ≡ strided merge cells d 1 (slice_index_or sizes j 0 - 1) p
