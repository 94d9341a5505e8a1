-- What a block of results sees of a window.
use Rattle.std.specs.Prelude.{◌≡◌, ℕ, pos, ◌+ℤ◌, ◌-ℤ◌, ◌+◌, ◌-◌, ◌*◌, ◌<◌, ◌≤◌, ◌^◌, List, length, slice_index_or}
use Rattle.mw_model.specs.declared.offsets.Rect.{Rect}
use Rattle.mw_rank_numbers.specs.declared.numbering.Part.{Part}
use Rattle.mw_rank_rows.specs.declared.rectangle.Rectangle.{Rectangle}
use Rattle.mw_rank_rows.specs.declared.group.Shown.{Shown}
use Rattle.mw_rank_rows.specs.declared.bands.Cut.{Cut}
use Rattle.mw_rank_rows.specs.Rectangles.{AreRowsShown}

-- rows that are shown, of these parts
abbrev pub shown_of_parts : ℕ → ℕ → ℕ → Shown
shown_of_parts skip first rows = record { skip = skip; first = first; rows = rows }

-- the part has all columns and rows of a window of that place that results see under the rectangle
pub record ShowsPart (all : Rect) (t : Rectangle) (place : Rect) (part : Part) : Type 0 where
  pub left : ℕ
  pub above : ℕ
  pub columns : AreRowsShown (pos place.x +ℤ t.dx -ℤ pos all.x) (place.width + t.columns - 1) all.width (shown_of_parts left part.column part.width)
  pub rows : AreRowsShown (pos place.y +ℤ t.dy -ℤ pos all.y) (place.height + t.rows - 1) all.height (shown_of_parts above part.row part.height)

-- the place of a part of a window
pub record IsPart (all : Rect) (part : Part) (place : Rect) : Type 0 where
  pub x : place.x ≡ all.x + part.column
  pub y : place.y ≡ all.y + part.row
  pub width : place.width ≡ part.width
  pub height : place.height ≡ part.height

-- some columns of so many rows of w cells each have these levels
pub record HasColumns {A : Type 0} (level : A → ℕ) (value : ℕ → ℕ → ℕ) (w n columns : ℕ) (cells : List A) : Type 0 where
  pub size : length cells ≡ n * w
  pub made : (x j : ℕ) (d : A) → x < columns → j < n → level (slice_index_or cells (j * w + x) d) ≡ value x j

-- blocks of this size fit into a tile of so many columns and rows
pub record CutFits (width height : ℕ) (c : Cut) : Type 0 where
  pub some : 1 ≤ c.width
  pub across : c.width ≤ width
  pub narrow : c.width ≤ 2 ^ 16
  pub tall : 8 ≤ c.height
  pub down : c.height ≤ height
  pub short : c.height ≤ 2 ^ 16
