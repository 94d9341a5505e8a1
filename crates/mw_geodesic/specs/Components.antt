-- The connected components of a set and their areas, after Soille, Morphological Image Analysis, chapters 2 and 8, and Vincent 1993.
use Rattle.std.specs.Prelude.{ℕ, ◌*◌, ◌/◌, ◌%◌, ◌&&◌, ◌==◌, List, map, filter, sum, nat_le, if◌then◌else◌, slice_index}
use Rattle.std.specs.List.{range_with_len, list_any, position_or_len}
use Rattle.mw_model.specs.declared.offsets.Offset.{Offset}
use Rattle.mw_model.specs.Pictures.{Picture, sample, redrawn}
use Rattle.mw_model.specs.Flat.{least, greatest, threshold, complement}
use Rattle.mw_geodesic.specs.Geodesics.{reconstruction}
use Rattle.mw_geodesic.specs.Paths.{point}

-- the part of the set that hangs together with a place
abbrev pub component : List Offset → Picture → ℕ → ℕ → Picture
component around f u v = reconstruction around f (point f u v)

-- the number of places of a set
abbrev pub area : Picture → ℕ
area f = sum f.samples

-- ---- regions

-- what is told of a component: its first place by rows from the top, its area, and the least box around it, both ends included
pub record Region : Type 0 where
  pub x : ℕ
  pub y : ℕ
  pub area : ℕ
  pub left : ℕ
  pub top : ℕ
  pub right : ℕ
  pub bottom : ℕ

-- the number of the first place of a set, by rows from the top
abbrev pub first_place : Picture → ℕ
first_place f = position_or_len (λ s. s == 1) f.samples

-- the component of the place with this number
abbrev pub component_at : List Offset → Picture → ℕ → Picture
component_at around f i = component around f (i % f.width) (i / f.width)

-- the numbers of the places of the set that are the first of their components
abbrev pub first_places : List Offset → Picture → List ℕ
first_places around f =
    filter (λ i. slice_index f.samples i == 1 && first_place (component_at around f i) == i) (range_with_len 0 (f.height * f.width))

-- the columns in which the set has a place
abbrev pub columns_met : Picture → List ℕ
columns_met f = filter (λ x. list_any (λ y. sample f x y == 1) (range_with_len 0 f.height)) (range_with_len 0 f.width)

-- the rows in which the set has a place
abbrev pub rows_met : Picture → List ℕ
rows_met f = filter (λ y. list_any (λ x. sample f x y == 1) (range_with_len 0 f.width)) (range_with_len 0 f.height)

-- what is told of a set whose first place has this number
abbrev pub region : Picture → ℕ → Region
region f i = record {
  x = i % f.width;
  y = i / f.width;
  area = area f;
  left = least f.width (columns_met f);
  top = least f.height (rows_met f);
  right = greatest (columns_met f);
  bottom = greatest (rows_met f);
}

-- the components of a set, in the order of their first places
abbrev pub regions : List Offset → Picture → List Region
regions around f = map (λ i. region (component_at around f i) i) (first_places around f)

-- ---- area openings

-- the components of a set with an area of a or more
abbrev pub large_components : List Offset → ℕ → Picture → Picture
large_components around a f = redrawn f (λ x y. if sample f x y == 1 && nat_le a (area (component around f x y)) then 1 else 0)

-- at each place the greatest level at which it belongs to a component of an area of a or more; of a set, those components
abbrev pub area_opening : List Offset → ℕ → Picture → Picture
area_opening around a f =
    redrawn f (λ x y. greatest (filter (λ k. sample (large_components around a (threshold k f)) x y == 1) (range_with_len 1 f.maxval)))

-- the dual: the complement of the area opening of the complement
abbrev pub area_closing : List Offset → ℕ → Picture → Picture
area_closing around a f = complement (area_opening around a (complement f))
