-- What lines and rows of results have (own).
use Rattle.std.specs.Prelude.{◌≡◌, ◌⊎◌, ℕ, ◌+◌, ◌-◌, ◌*◌, ◌<◌, ◌≤◌, pos, negsuc, ◌+ℤ◌, ◌-ℤ◌, ◌≤ℤ◌, List, length, slice_index_or}
use Rattle.mw_model.specs.declared.limits.TheConstants.{FAR_LIMIT}
use Rattle.mw_model.specs.declared.offsets.OffsetBox.{OffsetBox}
use Rattle.mw_model.specs.declared.offsets.Rect.{Rect}
use Rattle.mw_model.specs.Windows.{View}
use Rattle.mw_line.specs.Sides.{IsSeenSide}
use Rattle.mw_line.specs.Cells.{merged_cell}
use Rattle.mw_line.specs.Extrema.{over_box}
use Rattle.mw_line_lent.specs.declared.boxes.Boxes.{Boxes}
use Rattle.mw_line_lent.specs.Bests.{IsBest}
use Rattle.mw_line_lent.specs.Parts.{IsOverlap}

-- how many places a line has
abbrev pub wide_of : Boxes → ℕ
wide_of b = b.width + (b.across - 1)

-- there are boxes, of which no side has more than 256 places, and vectors of results and of what the place has
pub record IsSuited (width : ℕ) (b : Boxes) : Type 0 where
  pub across : 0 < b.across
  pub narrow : b.across ≤ 256
  pub down : 0 < b.down
  pub low : b.down ≤ 256
  pub wide : width ≤ b.width
  pub part : width ≤ b.part.count

-- these are the boxes at the places of a tile, without the columns and rows of each from which nothing of the place is seen
pub record AreBoxesOf (place : Rect) (box : OffsetBox) (tile : Rect) (b : Boxes) : Type 0 where
  pub ahead : ℕ
  pub above : ℕ
  pub across : IsSeenSide tile.x tile.width place.x place.width box.x0 box.x1 ahead b.across
  pub down : IsSeenSide tile.y tile.height place.y place.height box.y0 box.y1 above b.down
  pub column : b.column ≡ pos tile.x +ℤ (box.x0 +ℤ pos ahead) -ℤ pos place.x
  pub row : b.row ≡ pos tile.y +ℤ (box.y0 +ℤ pos above) -ℤ pos place.y
  pub width : b.width ≡ tile.width
  pub height : b.height ≡ tile.height
  pub part : IsOverlap b.column (wide_of b) place.width b.part
  pub near : negsuc FAR_LIMIT ≤ℤ b.row
  pub far : b.row ≤ℤ pos FAR_LIMIT

-- the cells from a place on are the line of row y: each is the extremum of what the view has down its column from there on
abbrev pub HasLine : {A : Type 0} → (A → A → A) → A → View A → Boxes → ℕ → ℕ → List A → Type 0
HasLine merge n w b y at cells = (x : ℕ) → x < wide_of b → IsBest merge (merged_cell merge n w b.column b.row x) y (y + b.down) (slice_index_or cells (at + x) n)

-- the cells are lines of so many rows, from row y on
abbrev pub HasLines : {A : Type 0} → (A → A → A) → A → View A → Boxes → ℕ → ℕ → List A → Type 0
HasLines merge n w b y rows cells = (r : ℕ) → r < rows → HasLine merge n w b (y + r) (r * wide_of b) cells

-- there is room for four lines, with neutral cells where the view's place has no columns
pub record IsBlank {A : Type 0} (n : A) (b : Boxes) (cells : List A) : Type 0 where
  pub size : length cells ≡ 4 * wide_of b
  pub before : (r x : ℕ) → r < 4 → x < b.part.behind → slice_index_or cells (r * wide_of b + x) n ≡ n
  pub after : (r x : ℕ) → r < 4 → b.part.behind + b.part.count ≤ x → x < wide_of b → slice_index_or cells (r * wide_of b + x) n ≡ n

-- n cells from a place on were written, and all others are as they were
pub record IsPutAt {A : Type 0} (at n : ℕ) (old new : List A) : Type 0 where
  pub size : length new ≡ length old
  pub before : (p : ℕ) (d : A) → p < at → slice_index_or new p d ≡ slice_index_or old p d
  pub behind : (p : ℕ) (d : A) → at + n ≤ p → slice_index_or new p d ≡ slice_index_or old p d

-- the first rows of a result have the extrema of what the view has under the boxes
abbrev pub HasBoxes : {A : Type 0} → (A → A → A) → A → View A → Boxes → ℕ → List A → Type 0
HasBoxes merge n w b rows cells = (x y : ℕ) → x < b.width → y < rows → slice_index_or cells (y * b.width + x) n ≡ over_box merge (merged_cell merge n w b.column b.row) b.across b.down x y

-- n cells from a place on were written in each of some rows of w cells, and all others are as they were
pub record IsPutInRows {A : Type 0} (rows at n w : ℕ) (old new : List A) : Type 0 where
  pub size : length new ≡ length old
  pub kept : (p : ℕ) (d : A) → ((r : ℕ) → r < rows → (p < at + r * w) ⊎ (at + r * w + n ≤ p)) → slice_index_or new p d ≡ slice_index_or old p d
