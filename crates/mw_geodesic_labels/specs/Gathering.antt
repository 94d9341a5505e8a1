-- How regions are gathered from runs, which come one after another.
use Rattle.std.specs.Prelude.{◌≡◌, ℕ, zero, suc, ◌+◌, ◌-◌, ◌*◌, ◌<◌, ◌≤◌, ◌==◌, ◌++◌, List, [], ◌∷◌, length, drop, min, max, slice_index, slice_index_or, slice_set, if◌then◌else◌, ◌^◌}
use Rattle.mw_geodesic_runs.specs.declared.runs.Run.{Run}
use Rattle.mw_geodesic_labels.specs.declared.regions.Region.{Region}
use Rattle.mw_geodesic_runs.specs.Runs.{run_numbered}
use Rattle.mw_geodesic_runs.specs.Forests.{StandsBefore}
use Rattle.mw_geodesic_labels.specs.Regions.{region_rows}

-- a region without places, which stands behind the end of a list
abbrev pub no_region : Region
no_region = record { x = 0; y = 0; area = 0; left = 0; top = 0; right = 0; bottom = 0 }

-- the region tells of this run alone
pub record TellsRun (run : Run) (r : Region) : Type 0 where
  pub x : r.x ≡ run.first
  pub y : r.y ≡ run.row
  pub area : r.area ≡ run.end - run.first
  pub left : r.left ≡ run.first
  pub top : r.top ≡ run.row
  pub right : r.right + 1 ≡ run.end
  pub bottom : r.bottom ≡ run.row

-- the region tells of what another did and of this run, which comes after
pub record TellsMore (before : Region) (run : Run) (r : Region) : Type 0 where
  pub x : r.x ≡ before.x
  pub y : r.y ≡ before.y
  pub area : r.area ≡ before.area + (run.end - run.first)
  pub left : r.left ≡ min before.left run.first
  pub top : r.top ≡ min before.top run.row
  pub right : r.right ≡ max before.right (run.end - 1)
  pub bottom : r.bottom ≡ max before.bottom run.row

-- the number is that of a region or of the next one, and there is room for the area
pub record CanAdd (run : Run) (number : ℕ) (regions : List Region) : Type 0 where
  pub some : run.first < run.end
  pub positive : 1 ≤ number
  pub next : number ≤ length regions + 1
  pub fits : (k : ℕ) → k < length regions → (slice_index_or regions k no_region).area + (run.end - run.first) < 2 ^ 32

-- The run is added: it begins a region, or the one with its number tells of it too.
pub data RunAdded (run : Run) (number : ℕ) (regions : List Region) : List Region → Type 0 where
  begun : (r : Region) → number ≡ length regions + 1 → TellsRun run r → RunAdded run number regions (regions ++ r ∷ [])
  added : (r : Region) (k : ℕ) → number ≡ k + 1 → k < length regions → TellsMore (slice_index_or regions k no_region) run r → RunAdded run number regions (slice_set regions k r)

-- the places of the first i runs with this number
abbrev pub area_of : List Run → List ℕ → ℕ → ℕ → ℕ
area_of runs numbers n zero = 0
area_of runs numbers n (suc i) = area_of runs numbers n i + (if slice_index numbers i == n then (run_numbered runs i).end - (run_numbered runs i).first else 0)

-- the areas of the numbers from 1 up to the count, by the first i runs
abbrev pub AreAreasOf : List Run → List ℕ → ℕ → ℕ → List ℕ → Type 0
AreAreasOf runs numbers i count areas = (k : ℕ) → k < count → slice_index areas k ≡ area_of runs numbers (k + 1) i

-- a run before number i has this number
pub record HasNumberBefore (numbers : List ℕ) (i n j : ℕ) : Type 0 where
  pub before : j < i
  pub is : slice_index numbers j ≡ n

-- the number is the least of what is told of the first i runs with number n
pub record IsLeastOf (numbers : List ℕ) (i n : ℕ) (told : ℕ → ℕ) (v : ℕ) : Type 0 where
  pub at : ℕ
  pub of : HasNumberBefore numbers i n at
  pub is : v ≡ told at
  pub least : (k : ℕ) → HasNumberBefore numbers i n k → v ≤ told k

-- the number is the greatest of what is told of the first i runs with number n
pub record IsGreatestOf (numbers : List ℕ) (i n : ℕ) (told : ℕ → ℕ) (v : ℕ) : Type 0 where
  pub at : ℕ
  pub of : HasNumberBefore numbers i n at
  pub is : v ≡ told at
  pub greatest : (k : ℕ) → HasNumberBefore numbers i n k → told k ≤ v

-- the place begins the first run with number n
pub record IsFirstOf (runs : List Run) (numbers : List ℕ) (i n x y : ℕ) : Type 0 where
  pub at : ℕ
  pub of : HasNumberBefore numbers i n at
  pub column : x ≡ (run_numbered runs at).first
  pub row : y ≡ (run_numbered runs at).row
  pub least : (k : ℕ) → HasNumberBefore numbers i n k → at ≤ k

-- the region tells of the first i runs with this number
pub record IsGathered (runs : List Run) (numbers : List ℕ) (i n : ℕ) (r : Region) : Type 0 where
  pub first : IsFirstOf runs numbers i n r.x r.y
  pub area : r.area ≡ area_of runs numbers n i
  pub left : IsLeastOf numbers i n (λ k. (run_numbered runs k).first) r.left
  pub top : IsLeastOf numbers i n (λ k. (run_numbered runs k).row) r.top
  pub right : IsGreatestOf numbers i n (λ k. (run_numbered runs k).end) (r.right + 1)
  pub bottom : IsGreatestOf numbers i n (λ k. (run_numbered runs k).row) r.bottom

-- a region for each number of the first i runs
pub record AreGathered (runs : List Run) (numbers : List ℕ) (i : ℕ) (regions : List Region) : Type 0 where
  pub most : (j : ℕ) → j < i → slice_index numbers j ≤ length regions
  pub each : (k : ℕ) → k < length regions → IsGathered runs numbers i (k + 1) (slice_index_or regions k no_region)

-- runs whose numbers rise by one at a time, with places for an area each
pub record AreWide (runs : List Run) (numbers : List ℕ) (count : ℕ) : Type 0 where
  pub size : length numbers ≡ length runs
  pub run : (i : ℕ) → i < length runs → (run_numbered runs i).first < (run_numbered runs i).end
  pub some : (i : ℕ) → i < length runs → 1 ≤ slice_index numbers i
  pub steps : (i : ℕ) → i < length runs → 2 ≤ slice_index numbers i → (k : ℕ) → k + 1 ≡ slice_index numbers i → StandsBefore numbers i k
  pub fits : (n i : ℕ) → i < length runs → area_of runs numbers n i + ((run_numbered runs i).end - (run_numbered runs i).first) < 2 ^ 32

-- the same of runs whose numbers are up to the count
pub record AreCounted (runs : List Run) (numbers : List ℕ) (count : ℕ) : Type 0 where
  pub wide : AreWide runs numbers count
  pub most : (i : ℕ) → i < length runs → slice_index numbers i ≤ count

-- ---- regions in rows

-- the numbers of the regions in place of the first of a list
abbrev pub rows_over : List Region → List ℕ → List ℕ
rows_over regions old = region_rows regions ++ drop (7 * length regions) old

-- the seven numbers from a place on are those of the region
pub record HasRegionAt (out : List ℕ) (at : ℕ) (r : Region) : Type 0 where
  pub x : slice_index out at ≡ r.x
  pub y : slice_index out (at + 1) ≡ r.y
  pub area : slice_index out (at + 2) ≡ r.area
  pub left : slice_index out (at + 3) ≡ r.left
  pub top : slice_index out (at + 4) ≡ r.top
  pub right : slice_index out (at + 5) ≡ r.right
  pub bottom : slice_index out (at + 6) ≡ r.bottom

-- the list has the rows of so many regions, to which the run can be added, and there is room for the row of its number
pub record CanAddToRows (run : Run) (number count : ℕ) (out : List ℕ) : Type 0 where
  pub regions : List Region
  pub before : List ℕ
  pub can : CanAdd run number regions
  pub many : count ≡ length regions
  pub rows : out ≡ rows_over regions before
  pub room : 7 * number ≤ length before

-- it has the rows of so many regions, to which the run is added
pub record AreRowsAdded (run : Run) (number : ℕ) (regions : List Region) (before : List ℕ) (count : ℕ) (out : List ℕ) : Type 0 where
  pub now : List Region
  pub added : RunAdded run number regions now
  pub many : count ≡ length now
  pub rows : out ≡ rows_over now before

-- it has the rows of as many regions as the first i runs have numbers, in place of the first of an old list
pub record AreRowsGathered (runs : List Run) (numbers : List ℕ) (i : ℕ) (old : List ℕ) (count : ℕ) (new : List ℕ) : Type 0 where
  pub regions : List Region
  pub are : AreGathered runs numbers i regions
  pub many : count ≡ length regions
  pub rows : new ≡ rows_over regions old
