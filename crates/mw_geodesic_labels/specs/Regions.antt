-- What is told of the components of a set: of each its first place, its area and the least box around it.
use Rattle.std.specs.Prelude.{◌≡◌, ◌==◌, ℕ, ◌+◌, ◌*◌, ◌<◌, ◌≤◌, List, [], ◌∷◌, ◌++◌, length, count_by, drop, flat_map, slice_index_or}
use Rattle.mw_model.specs.declared.offsets.Offset.{Offset}
use Rattle.mw_model.specs.Pictures.{Picture}
use Rattle.mw_geodesic.specs.Neighbours.{IsPlace}
use Rattle.mw_geodesic.specs.Labels.{IsLabelling, label_at}
use Rattle.mw_geodesic.specs.Components.{Region as ToldRegion}
use Rattle.mw_geodesic_labels.specs.declared.regions.Region.{Region}

-- the place has this label
pub record HasLabel (f : Picture) (labels : List ℕ) (n x y : ℕ) : Type 0 where
  pub place : IsPlace f x y
  pub label : label_at f labels x y ≡ n

-- the number is the least of those of which something holds
pub record IsLeast (P : ℕ → Type 0) (k : ℕ) : Type 0 where
  pub met : P k
  pub least : (j : ℕ) → P j → k ≤ j

-- the number is the greatest of those of which something holds
pub record IsGreatest (P : ℕ → Type 0) (k : ℕ) : Type 0 where
  pub met : P k
  pub greatest : (j : ℕ) → P j → j ≤ k

-- the column has a place with this label
abbrev pub IsColumn : Picture → List ℕ → ℕ → ℕ → Type 0
IsColumn f labels n x = (y : ℕ) × HasLabel f labels n x y

-- the row has a place with this label
abbrev pub IsRow : Picture → List ℕ → ℕ → ℕ → Type 0
IsRow f labels n y = (x : ℕ) × HasLabel f labels n x y

-- the region tells of the places with this label: the first of them by rows from the top, how many there are, and the first and the last columns and rows that have one
pub record IsRegion (f : Picture) (labels : List ℕ) (n : ℕ) (r : Region) : Type 0 where
  pub place : HasLabel f labels n r.x r.y
  pub first : (x y : ℕ) → HasLabel f labels n x y → r.y * f.width + r.x ≤ y * f.width + x
  pub area : r.area ≡ count_by (λ l. l == n) labels
  pub left : IsLeast (IsColumn f labels n) r.left
  pub top : IsLeast (IsRow f labels n) r.top
  pub right : IsGreatest (IsColumn f labels n) r.right
  pub bottom : IsGreatest (IsRow f labels n) r.bottom

-- the regions are those of the labels of the set, from 1 up, as many as there are components
pub record AreRegionsOf (element : List Offset) (f : Picture) (regions : List Region) : Type 0 where
  pub labels : List ℕ
  pub labelling : IsLabelling element f (length regions) labels
  pub each : (k : ℕ) (d : Region) → k < length regions → IsRegion f labels (k + 1) (slice_index_or regions k d)

-- ---- regions that are written

-- the seven numbers of a component
abbrev pub region_row : Region → List ℕ
region_row r = r.x ∷ r.y ∷ r.area ∷ r.left ∷ r.top ∷ r.right ∷ r.bottom ∷ []

-- those of each component
abbrev pub region_rows : List Region → List ℕ
region_rows regions = flat_map region_row regions

-- the first places have the numbers of the components, which are so many, and those behind them are as they were
pub record AreRegionsWritten (element : List Offset) (f : Picture) (count : ℕ) (old new : List ℕ) : Type 0 where
  pub regions : List Region
  pub are : AreRegionsOf element f regions
  pub counted : count ≡ length regions
  pub written : new ≡ region_rows regions ++ drop (7 * count) old

-- the set has so many components
pub record HasComponents (element : List Offset) (f : Picture) (count : ℕ) : Type 0 where
  pub labels : List ℕ
  pub labelling : IsLabelling element f count labels

-- the set has so many components; where there is room for the numbers of all of them, they are written, and else nothing is
pub record AreRegionsTold (element : List Offset) (f : Picture) (count : ℕ) (old new : List ℕ) : Type 0 where
  pub components : HasComponents element f count
  pub written : 7 * count ≤ length old → AreRegionsWritten element f count old new
  pub unwritten : length old < 7 * count → new ≡ old

-- the regions are told in one list; and where there is room for all of them, another list has the labels of the set, and else is as it was
pub record AreRegionsWithLabels (element : List Offset) (f : Picture) (count : ℕ) (old_rows rows old new : List ℕ) : Type 0 where
  pub told : AreRegionsTold element f count old_rows rows
  pub labels : 7 * count ≤ length old_rows → IsLabelling element f count new
  pub unlabelled : length old_rows < 7 * count → new ≡ old

-- the region in natural numbers, as the definition of components tells it
abbrev pub region_told : Region → ToldRegion
region_told r = record { x = r.x; y = r.y; area = r.area; left = r.left; top = r.top; right = r.right; bottom = r.bottom }
