-- Windows as the pieces of a frame that they are made of (own).
use Rattle.std.specs.Prelude.{◌≡◌, ℕ, ◌+◌, ◌-◌, ◌*◌, ◌<◌, ◌≤◌, Bool, true, ◌&&◌, nat_le, nat_lt, min, max, cond, List, [], ◌∷◌, length, Option, None, slice_get, slice_index_or}
use Rattle.std.specs.List.{AllByRecursion, list_any}
use Rattle.mw_model.specs.declared.offsets.Rect.{Rect}
use Rattle.mw_model.specs.Rectangles.{rect, Holds, IsWithin}
use Rattle.mw_model.specs.Rasters.{Raster}
use Rattle.mw_model.specs.Windows.{View}

-- Cells of a rectangle of a frame, by rows.
pub record Patch (A : Type 0) : Type 0 where
  pub place : Rect
  pub cells : List A

abbrev pub patch : {A : Type 0} → Rect → List A → Patch A
patch place cells = record { place = place; cells = cells }

-- what stands behind the last piece: nothing
abbrev pub no_patch : {A : Type 0} → Patch A
no_patch = patch (rect 0 0 0 0) []

abbrev pub patch_at : {A : Type 0} → List (Patch A) → ℕ → Patch A
patch_at ps k = slice_index_or ps k no_patch

-- the cell of a column and row of the frame, which the piece has
abbrev pub cell_of : {A : Type 0} → Patch A → ℕ → ℕ → Option A
cell_of p x y = slice_get p.cells ((y - p.place.y) * p.place.width + (x - p.place.x))

-- the cell of a column and row of a whole frame
abbrev pub frame_value : {A : Type 0} → Raster A → ℕ → ℕ → Option A
frame_value f x y = slice_get f.cells (y * f.width + x)

-- whether the rectangle has this place
abbrev pub has_place : Rect → ℕ → ℕ → Bool
has_place r x y = nat_le r.x x && nat_lt x (r.x + r.width) && nat_le r.y y && nat_lt y (r.y + r.height)

-- whether a piece has this place
abbrev pub held_in : {A : Type 0} → List (Patch A) → ℕ → ℕ → Bool
held_in ps x y = list_any (λ p. has_place p.place x y) ps

-- what the first piece that has this place has there
abbrev pub value_in : {A : Type 0} → List (Patch A) → ℕ → ℕ → Option A
value_in [] x y = None
value_in (p ∷ ps) x y = cond (has_place p.place x y) (cell_of p x y) (value_in ps x y)

-- the places that both rectangles have
abbrev pub overlap_of : Rect → Rect → Rect
overlap_of a b =
    rect (max a.x b.x) (max a.y b.y) (min (a.x + a.width) (b.x + b.width) - max a.x b.x) (min (a.y + a.height) (b.y + b.height) - max a.y b.y)

-- the rectangle lies in the other
pub record IsInside (r s : Rect) : Type 0 where
  pub left : s.x ≤ r.x
  pub right : r.x + r.width ≤ s.x + s.width
  pub top : s.y ≤ r.y
  pub bottom : r.y + r.height ≤ s.y + s.height

-- its cells fill the rectangle
abbrev pub IsFull : {A : Type 0} → Patch A → Type 0
IsFull p = length p.cells ≡ p.place.height * p.place.width

-- the piece is one of a frame of this width and height
pub record IsPatchOf {A : Type 0} (width height : ℕ) (p : Patch A) : Type 0 where
  pub within : IsWithin p.place width height
  pub full : IsFull p

-- inside the rectangle the piece has these values
abbrev pub ShowsIn : {A : Type 0} → Rect → (ℕ → ℕ → Option A) → Patch A → Type 0
ShowsIn r value p = (x y : ℕ) → Holds r x y → Holds p.place x y → cell_of p x y ≡ value x y

-- each place of the rectangle is one of a piece
abbrev pub PiecesCover : {A : Type 0} → Rect → List (Patch A) → Type 0
PiecesCover r ps = (x y : ℕ) → Holds r x y → held_in ps x y ≡ true

-- A window in pieces, with the sides of its frame.
pub record Joint (A : Type 0) : Type 0 where
  pub frame_width : ℕ
  pub frame_height : ℕ
  pub place : Rect
  pub pieces : List (Patch A)

abbrev pub joint : {A : Type 0} → ℕ → ℕ → Rect → List (Patch A) → Joint A
joint frame_width frame_height place pieces = record { frame_width = frame_width; frame_height = frame_height; place = place; pieces = pieces }

-- the pieces lie in the frame, together have each place of the window, and have the same where they overlap there
pub record IsJoint {A : Type 0} (j : Joint A) : Type 0 where
  pub within : IsWithin j.place j.frame_width j.frame_height
  pub patches : AllByRecursion (IsPatchOf j.frame_width j.frame_height) j.pieces
  pub covers : PiecesCover j.place j.pieces
  pub agree : AllByRecursion (ShowsIn j.place (value_in j.pieces)) j.pieces

-- in the window the pieces have what this whole frame has there
pub record ShowsFrame {A : Type 0} (f : Raster A) (j : Joint A) : Type 0 where
  pub width : j.frame_width ≡ f.width
  pub height : j.frame_height ≡ f.height
  pub same : (x y : ℕ) → Holds j.place x y → value_in j.pieces x y ≡ frame_value f x y

-- the cells are these values in a rectangle, by rows
pub record HasValues {A : Type 0} (value : ℕ → ℕ → Option A) (r : Rect) (cells : List A) : Type 0 where
  pub size : length cells ≡ r.height * r.width
  pub same : (i j : ℕ) → i < r.width → j < r.height → slice_get cells (j * r.width + i) ≡ value (r.x + i) (r.y + j)

-- the view is the window that the pieces make
pub record IsJoined {A : Type 0} (j : Joint A) (w : View A) : Type 0 where
  pub frame_width : w.frame_width ≡ j.frame_width
  pub frame_height : w.frame_height ≡ j.frame_height
  pub place : w.place ≡ j.place
  pub values : HasValues (value_in j.pieces) j.place w.cells

-- this plane is the window that the pieces make
pub record IsWholeOf {A : Type 0} (j : Joint A) (p : Raster A) : Type 0 where
  pub width : p.width ≡ j.place.width
  pub height : p.height ≡ j.place.height
  pub values : HasValues (value_in j.pieces) j.place p.cells
