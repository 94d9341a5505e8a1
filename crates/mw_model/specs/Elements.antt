-- Structuring elements: lists of distinct offsets, not empty, that come from bitmaps.
use Rattle.std.specs.Prelude.{◌≡◌, ◌<◌, ℕ, ◌+◌, ◌*◌, ◌&&◌, ◌==◌, Bool, List, [], ◌≢◌, map, flat_map, filter_map, pos, negsuc, ◌-ℤ◌, neg_ℤ, ◌≤ℤ◌, if◌then◌else◌, Some, None, slice_index}
use Rattle.std.specs.Ordering.{int_eq}
use Rattle.std.specs.List.{range_with_len, list_any, IsDistinct, AllByRecursion}
use Rattle.mw_model.specs.declared.codes.Code.{Code}
use Rattle.mw_model.specs.declared.codes.Code.TheVariants as code
use Rattle.mw_model.specs.declared.limits.TheConstants.{ELEMENT_SIDE_LIMIT}
use Rattle.mw_model.specs.declared.offsets.Offset.{Offset}
use Rattle.mw_model.specs.declared.offsets.Reach.{Reach}
use Rattle.mw_model.specs.Rectangles.{nonnegative}
use Rattle.mw_model.specs.Rasters.{Raster}
use Rattle.mw_model.specs.Flat.{greatest}
use Rattle.mw_model.specs.Bitmaps.{SidesFit, IsBitmap, BitmapRefuses}

-- A structuring element, with the size of the bitmap that it came from.
pub record Figure : Type 0 where
  pub width : ℕ
  pub height : ℕ
  pub offsets : List Offset

-- the place at column x of row y, seen from the origin at column ox of row oy
abbrev pub offset_from : ℕ → ℕ → ℕ → ℕ → Offset
offset_from ox oy x y = record { dx = pos x -ℤ pos ox; dy = pos y -ℤ pos oy }

-- the places of a row with a pixel of value 1, from the left, seen from the origin
abbrev pub offsets_in_row : Raster ℕ → ℕ → ℕ → ℕ → List Offset
offsets_in_row f ox oy y =
    filter_map (λ x. if slice_index f.cells (y * f.width + x) == 1 then Some (offset_from ox oy x y) else None) (range_with_len 0 f.width)

-- the places of all rows with a pixel of value 1, from the top
abbrev pub offsets_of : Raster ℕ → ℕ → ℕ → List Offset
offsets_of f ox oy = flat_map (λ y. offsets_in_row f ox oy y) (range_with_len 0 f.height)

-- the element of a bitmap with this origin
abbrev pub figure_of : Raster ℕ → ℕ → ℕ → Figure
figure_of f ox oy = record { width = f.width; height = f.height; offsets = offsets_of f ox oy }

-- both offsets have one column and one row
abbrev pub same_offset : Offset → Offset → Bool
same_offset a b = int_eq a.dx b.dx && int_eq a.dy b.dy

-- the greatest side of an element's bitmap (own)
abbrev pub element_side : ℕ
element_side = ELEMENT_SIDE_LIMIT

-- the offset stays within the sides, whatever the origin
pub record IsNear (b : Offset) : Type 0 where
  pub left : negsuc 253 ≤ℤ b.dx
  pub right : b.dx ≤ℤ pos 254
  pub top : negsuc 253 ≤ℤ b.dy
  pub bottom : b.dy ≤ℤ pos 254

-- no offset stands twice, there is one, and the bitmap is within the limit
pub record IsFigure (figure : Figure) : Type 0 where
  pub distinct : IsDistinct same_offset figure.offsets
  pub some : figure.offsets ≢ []
  pub near : AllByRecursion IsNear figure.offsets
  pub sides : SidesFit element_side figure.width figure.height

-- the element has its origin
abbrev pub holds_origin : List Offset → Bool
holds_origin offsets = list_any (λ (b : Offset). int_eq b.dx (pos 0) && int_eq b.dy (pos 0)) offsets

-- the elements share an offset
abbrev pub overlaps : List Offset → List Offset → Bool
overlaps first second = list_any (λ (a : Offset). list_any (same_offset a) second) first

-- the greatest distance of an offset on each side
abbrev pub reach_of : List Offset → Reach
reach_of offsets = record {
  left = greatest (map (λ (b : Offset). nonnegative (neg_ℤ b.dx)) offsets);
  right = greatest (map (λ (b : Offset). nonnegative b.dx) offsets);
  up = greatest (map (λ (b : Offset). nonnegative (neg_ℤ b.dy)) offsets);
  down = greatest (map (λ (b : Offset). nonnegative b.dy) offsets);
}

-- ---- elements from bytes

-- the origin lies in the bitmap
pub record HoldsPlace (f : Raster ℕ) (ox oy : ℕ) : Type 0 where
  pub column : ox < f.width
  pub row : oy < f.height

-- the bytes, with this origin, are this element
pub record IsElement (bytes : List ℕ) (ox oy : ℕ) (figure : Figure) : Type 0 where
  pub bitmap : Raster ℕ
  pub is_bitmap : IsBitmap bytes element_side bitmap
  pub origin : HoldsPlace bitmap ox oy
  pub some : offsets_of bitmap ox oy ≢ []
  pub shows : figure ≡ figure_of bitmap ox oy

-- the bytes, with this origin, are no element, and this code tells why: the first case that holds (own)
pub data ElementRefuses (bytes : List ℕ) (ox oy : ℕ) : Code → Type 0 where
  no_bitmap : (c : Code) → BitmapRefuses bytes element_side c → ElementRefuses bytes ox oy c
  no_origin : (f : Raster ℕ) → IsBitmap bytes element_side f → ¬ HoldsPlace f ox oy → ElementRefuses bytes ox oy code.Origin
  no_pixel : (f : Raster ℕ) → IsBitmap bytes element_side f → HoldsPlace f ox oy → offsets_of f ox oy ≡ [] → ElementRefuses bytes ox oy code.Empty
