-- From which sides places are looked at, and the least that is told of those with one label.
use Rattle.std.specs.Prelude.{◌≡◌, ◌⊎◌, ℕ, ◌+◌, ◌-◌, ◌/◌, ◌%◌, ◌<◌, ◌≤◌, ◌^◌, List, length, slice_index, vec_len}
use Rattle.mw_geodesic.specs.Labels.{AreAreas}
use Rattle.mw_geodesic_labels.specs.declared.regions.Region.{Region}
use Rattle.mw_c_geodesic.specs.declared.sides.Side.{Side}
use Rattle.mw_c_geodesic.specs.declared.sides.Side.TheVariants as side
use Rattle.mw_c_geodesic.specs.declared.told_regions.Tables.{Tables}

-- how far a place of a frame is from the first one, by rows, or from one of the four sides
abbrev pub how_far : Side → ℕ → ℕ → ℕ → ℕ
how_far side.First width height i = i
how_far side.Left width height i = i % width
how_far side.Top width height i = i / width
how_far side.Right width height i = width - 1 - i % width
how_far side.Bottom width height i = height - 1 - i / width

-- one of the first i places with the label, of which just this is told
pub record IsToldBefore (told : ℕ → ℕ) (labels : List ℕ) (i n v : ℕ) : Type 0 where
  pub at : ℕ
  pub before : at < i
  pub label : slice_index labels at ≡ n
  pub is : told at ≡ v

-- the number is the least that is told of the first i places with the label; where there are none, it is the greatest of 32 bits
pub record IsLeastTold (told : ℕ → ℕ) (labels : List ℕ) (i n v : ℕ) : Type 0 where
  pub met : IsToldBefore told labels i n v ⊎ (v ≡ 2 ^ 32 - 1)
  pub least : (j : ℕ) → j < i → slice_index labels j ≡ n → v ≤ told j

-- the tables tell of the labels from 1 up to the count
pub record AreTables (labels : List ℕ) (count width height : ℕ) (t : Tables) : Type 0 where
  pub first_size : vec_len t.first ≡ count
  pub left_size : vec_len t.left ≡ count
  pub top_size : vec_len t.top ≡ count
  pub right_size : vec_len t.right ≡ count
  pub bottom_size : vec_len t.bottom ≡ count
  pub areas_size : vec_len t.areas ≡ count
  pub first : (k : ℕ) → k < count → IsLeastTold (how_far side.First width height) labels (length labels) (k + 1) (slice_index t.first.items k)
  pub left : (k : ℕ) → k < count → IsLeastTold (how_far side.Left width height) labels (length labels) (k + 1) (slice_index t.left.items k)
  pub top : (k : ℕ) → k < count → IsLeastTold (how_far side.Top width height) labels (length labels) (k + 1) (slice_index t.top.items k)
  pub right : (k : ℕ) → k < count → IsLeastTold (how_far side.Right width height) labels (length labels) (k + 1) (slice_index t.right.items k)
  pub bottom : (k : ℕ) → k < count → IsLeastTold (how_far side.Bottom width height) labels (length labels) (k + 1) (slice_index t.bottom.items k)
  pub areas : AreAreas labels count t.areas.items

-- the region has what the tables tell of label k + 1
pub record IsRegionIn (t : Tables) (width height k : ℕ) (r : Region) : Type 0 where
  pub x : r.x ≡ slice_index t.first.items k % width
  pub y : r.y ≡ slice_index t.first.items k / width
  pub area : r.area ≡ slice_index t.areas.items k
  pub left : r.left ≡ slice_index t.left.items k
  pub top : r.top ≡ slice_index t.top.items k
  pub right : r.right ≡ width - 1 - slice_index t.right.items k
  pub bottom : r.bottom ≡ height - 1 - slice_index t.bottom.items k
