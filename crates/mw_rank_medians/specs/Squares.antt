-- Elements that are squares of offsets.
use Rattle.std.specs.Prelude.{◌≡◌, ℕ, zero, suc, ◌+◌, ◌*◌, ◌<◌, ◌≤◌, List, [], ◌++◌, length, pos, ◌+ℤ◌, ◌⊎◌}
use Rattle.mw_model.specs.declared.offsets.Offset.{Offset}
use Rattle.mw_model.specs.Rasters.{Sight}
use Rattle.mw_rank.specs.Ranks.{levels_under}
use Rattle.mw_rank.specs.Runs.{offsets_from}
use Rattle.mw_rank.specs.Tallies.{count_under}
use Rattle.mw_rank_medians.specs.Columns.{block_below}

-- the offset so many rows down
abbrev pub row_down : Offset → ℕ → Offset
row_down b r = record { dx = b.dx; dy = b.dy +ℤ pos r }

-- the first rows of so many offsets each, from this one to the right and down
abbrev pub offset_rows : Offset → ℕ → ℕ → List Offset
offset_rows b side zero = []
offset_rows b side (suc n) = offset_rows b side n ++ offsets_from (row_down b n) side

-- number k is the median under a square of that side, one for which there is a network
abbrev pub IsMedian : ℕ → ℕ → Type 0
IsMedian side k = ((side ≡ 3) × (k ≡ 5)) ⊎ ((side ≡ 5) × (k ≡ 13))

-- for n columns of row y from x on, all that is seen under the element stands in rows and columns from a place on
pub record ShowsSquare {A : Type 0} (level : A → ℕ) (d : A) (sight : Sight A) (samples : List A) (element : List Offset) (x y n from stride side : ℕ) : Type 0 where
  pub inside : from + side * stride + n + side ≤ length samples + stride + 1
  pub seen : (i t : ℕ) → i < n → count_under t (levels_under level sight element (x + i) y) ≡ block_below level d samples from stride side i t
