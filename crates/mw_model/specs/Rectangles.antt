-- Rectangles of a frame, and the tiles that cover it.
use Rattle.std.specs.Prelude.{◌≡◌, ℕ, ◌+◌, ◌-◌, ◌<◌, ◌≤◌, min, List, map, length, slice_index_or, ℤ, pos, negsuc, ◌+ℤ◌, ◌-ℤ◌, ◌≤ℤ◌, flat_map}
use Rattle.std.specs.List.{range_with_len, AllByRecursion}
use Rattle.mw_model.specs.declared.offsets.Offset.{Offset}
use Rattle.mw_model.specs.declared.offsets.OffsetBox.{OffsetBox}
use Rattle.mw_model.specs.declared.offsets.Reach.{Reach}
use Rattle.mw_model.specs.declared.offsets.Rect.{Rect}

-- the rectangle with this first place and these sides
abbrev pub rect : ℕ → ℕ → ℕ → ℕ → Rect
rect x y width height = record { x = x; y = y; width = width; height = height }

-- the rectangle has this place
pub record Holds (r : Rect) (x y : ℕ) : Type 0 where
  pub left : r.x ≤ x
  pub right : x < r.x + r.width
  pub top : r.y ≤ y
  pub bottom : y < r.y + r.height

-- the rectangle lies in a frame of this width and height
pub record IsWithin (r : Rect) (width height : ℕ) : Type 0 where
  pub across : r.x + r.width ≤ width
  pub down : r.y + r.height ≤ height

-- the rectangle grown by a reach and cut to a frame of this width and height
abbrev pub grown : ℕ → ℕ → Reach → Rect → Rect
grown width height reach r =
    rect (r.x - reach.left) (r.y - reach.up) (min (r.x + r.width + reach.right) width - (r.x - reach.left)) (min (r.y + r.height + reach.down) height - (r.y - reach.up))

-- a place of the list, or an empty rectangle behind its end
abbrev pub tile_of : List Rect → ℕ → Rect
tile_of tiles t = slice_index_or tiles t (rect 0 0 0 0)

-- exactly one rectangle of the list has this place
pub record HoldsOnce (tiles : List Rect) (x y : ℕ) : Type 0 where
  pub tile : ℕ
  pub here : tile < length tiles
  pub holds : Holds (tile_of tiles tile) x y
  pub only : (j : ℕ) → j < length tiles → Holds (tile_of tiles j) x y → j ≡ tile

-- the rectangles lie in the frame and have each of its places once
pub record CoverOnce (tiles : List Rect) (width height : ℕ) : Type 0 where
  pub within : AllByRecursion (λ r. IsWithin r width height) tiles
  pub once : (x y : ℕ) → x < width → y < height → HoldsOnce tiles x y

-- the offset leads no further than the reach
pub record Leads (reach : Reach) (b : Offset) : Type 0 where
  pub left : pos 0 ≤ℤ (b.dx +ℤ pos reach.left)
  pub right : b.dx ≤ℤ pos reach.right
  pub up : pos 0 ≤ℤ (b.dy +ℤ pos reach.up)
  pub down : b.dy ≤ℤ pos reach.down

-- no offset of the element leads further than the reach
abbrev pub WithinReach : Reach → List Offset → Type 0
WithinReach reach element = AllByRecursion (λ (b : Offset). Leads reach b) element

-- the number, or 0 below 0
abbrev pub nonnegative : ℤ → ℕ
nonnegative (pos n) = n
nonnegative (negsuc n) = 0

-- how many whole numbers there are from a to b, both included
abbrev pub span : ℤ → ℤ → ℕ
span a b = nonnegative (b -ℤ a +ℤ pos 1)

-- all offsets of a box, by rows from the top, and in each row from the left
abbrev pub box_offsets : OffsetBox → List Offset
box_offsets box =
    flat_map (λ j. map (λ i. record { dx = box.x0 +ℤ pos i; dy = box.y0 +ℤ pos j }) (range_with_len 0 (span box.x0 box.x1))) (range_with_len 0 (span box.y0 box.y1))
