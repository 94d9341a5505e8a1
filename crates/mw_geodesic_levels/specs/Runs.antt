-- Samples along a row, from the left or from the right.
use Rattle.std.specs.Prelude.{◌≡◌, ℕ, ◌+◌, ◌-◌, ◌<◌, ◌≤◌, Bool, true, false, min}

-- the number so many columns further on, to the right or to the left
abbrev pub along : Bool → ℕ → ℕ → ℕ
along true start k = start + k
along false start k = start - k

-- the column of a place of a row of this width, counted from the left or from the right
abbrev pub column : Bool → ℕ → ℕ → ℕ
column true width p = p
column false width p = width - 1 - p

-- Two runs of 128 levels, of which the first 64 stand for one place, and levels h that are one there: the first run is under
-- them, and none of h is under what reaches it from so many places before it, cut to the second run.
pub record IsUnderRun (by : ℕ) (run ways h : ℕ → ℕ) : Type 0 where
  pub under : (j : ℕ) → j < 128 → run j ≤ h j
  pub reached : (j : ℕ) → j + by < 128 → min (h j) (ways (j + by)) ≤ h (j + by)
  pub flat : (j : ℕ) → j < 64 → h j ≡ h 0
