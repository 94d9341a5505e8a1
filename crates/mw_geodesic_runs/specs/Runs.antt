-- The runs of a set: pixels that stand side by side in a row, as many as do.
use Rattle.std.specs.Prelude.{◌≡◌, ℕ, zero, suc, ◌+◌, ◌-◌, ◌*◌, ◌<◌, ◌≤◌, ◌⊎◌, min, List, length, slice_index_or}
use Rattle.mw_model.specs.Pictures.{Picture, sample}
use Rattle.mw_geodesic_runs.specs.declared.runs.Run.{Run}

-- a run without pixels, which stands behind the end of a list
abbrev pub no_run : Run
no_run = record { row = 0; first = 0; end = 0 }

-- the run with this number
abbrev pub run_numbered : List Run → ℕ → Run
run_numbered runs i = slice_index_or runs i no_run

-- the place is of the run
pub record HasPlace (r : Run) (x y : ℕ) : Type 0 where
  pub row : y ≡ r.row
  pub from : r.first ≤ x
  pub to : x < r.end

-- the pixels of the run are of the set, and the next one is not
pub record IsRunOfSet (f : Picture) (r : Run) : Type 0 where
  pub some : r.first < r.end
  pub within : r.end ≤ f.width
  pub inside : (x : ℕ) → r.first ≤ x → x < r.end → sample f x r.row ≡ 1
  pub stops : r.end < f.width → sample f r.end r.row ≡ 0

-- the first run lies in a row above, or in the same row to the left with a place between
abbrev pub Precedes : Run → Run → Type 0
Precedes a b = (a.row < b.row) ⊎ ((a.row ≡ b.row) × (a.end < b.first))

-- each run precedes those behind it
pub record AreInOrder (runs : List Run) : Type 0 where
  pub each : (i j : ℕ) → i < j → j < length runs → Precedes (run_numbered runs i) (run_numbered runs j)

-- the number of a run that holds the place
pub record InSomeRun (runs : List Run) (x y : ℕ) : Type 0 where
  pub at : ℕ
  pub within : at < length runs
  pub holds : HasPlace (run_numbered runs at) x y

-- the place stands in a row above, or in this one before column x
abbrev pub IsBefore : ℕ → ℕ → ℕ → ℕ → Type 0
IsBefore u v x y = (v < y) ⊎ ((v ≡ y) × (u < x))

-- the run ends in a row above, or in this one up to column x
abbrev pub EndsBefore : Run → ℕ → ℕ → Type 0
EndsBefore r x y = (r.row < y) ⊎ ((r.row ≡ y) × (r.end ≤ x))

-- what a number of each place comes to below a place
abbrev pub tally : (ℕ → ℕ) → ℕ → ℕ
tally s zero = 0
tally s (suc n) = tally s n + s n

-- what stands to the left of a place; left of the first there is 0
abbrev pub left_of : (ℕ → ℕ) → ℕ → ℕ
left_of s zero = 0
left_of s (suc x) = s x

-- 1 where a run begins, in a row of 0 and 1, else 0
abbrev pub begin_at : (ℕ → ℕ) → ℕ → ℕ
begin_at s x = s x - left_of s x

-- how many runs begin in a row of the set before column x
abbrev pub begun : Picture → ℕ → ℕ → ℕ
begun f y x = tally (begin_at (λ u. sample f u y)) x

-- how many runs a set has
abbrev pub run_count : Picture → ℕ
run_count f = tally (λ y. begun f y f.width) f.height

-- the runs of the places before column x of row y, in order: as many as begin there, and no more than places
pub record RunsBefore (f : Picture) (x y : ℕ) (runs : List Run) : Type 0 where
  pub each : (i : ℕ) → i < length runs → IsRunOfSet f (run_numbered runs i)
  pub order : AreInOrder runs
  pub ends : (i : ℕ) → i < length runs → EndsBefore (run_numbered runs i) x y
  pub all : (u v : ℕ) → u < f.width → IsBefore u v x y → sample f u v ≡ 1 → InSomeRun runs u v
  pub few : length runs ≤ y * f.width + min x f.width
  pub count : length runs ≡ tally (λ v. begun f v f.width) y + begun f y (min x f.width)
