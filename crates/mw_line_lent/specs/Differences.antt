-- One extremum less another (own but for the last).
use Rattle.std.specs.Prelude.{◌≡◌, ℕ, ◌+◌, ◌-◌, ◌*◌, ◌<◌, List, length, fold, slice_index_or}
use Rattle.mw_model.specs.declared.offsets.Offset.{Offset}
use Rattle.mw_model.specs.declared.offsets.Rect.{Rect}
use Rattle.mw_model.specs.Rasters.{Raster, Sight, seen_under}
use Rattle.mw_model.specs.Windows.{View}
use Rattle.mw_line.specs.Cells.{merged_cell}
use Rattle.mw_line.specs.Extrema.{over_box}
use Rattle.mw_line_lent.specs.declared.across.Taps.{Taps}
use Rattle.mw_line_lent.specs.declared.boxes.Boxes.{Boxes}
use Rattle.mw_line_lent.specs.Bests.{IsBest}

-- the level is that of the one extremum of values from a on and before b, less that of the other extremum of others there
pub record IsBestLess {A : Type 0} (level : A → ℕ) (upper : A → A → A) (value : ℕ → A) (lower : A → A → A) (other : ℕ → A) (a b : ℕ) (r : A) : Type 0 where
  pub high : A
  pub low : A
  pub greatest : IsBest upper value a b high
  pub least : IsBest lower other a b low
  pub less : level r ≡ level high - level low

-- from a place on n cells are each the one extremum of a line's taps, less the other of another line's: where the lines have windows
-- of `step` values, these are windows of `last` values more
abbrev pub HasTapsLess : {A : Type 0} → (A → ℕ) → (A → A → A) → List A → (A → A → A) → List A → Taps → ℕ → ℕ → List A → Type 0
HasTapsLess {A} level upper highs lower lows taps n at cells = (value other : ℕ → A) (i : ℕ) (d e : A) → i < n
    → ((j : ℕ) → j < n + taps.last → IsBest upper value j (j + taps.step) (slice_index_or highs (taps.from + j) d))
    → ((j : ℕ) → j < n + taps.last → IsBest lower other j (j + taps.step) (slice_index_or lows (taps.from + j) e))
    → IsBestLess level upper value lower other i (i + (taps.last + taps.step)) (slice_index_or cells (at + i) d)

-- the first rows of a result have the one extremum of what the view has under the boxes, less the other
abbrev pub HasDifferences : {A : Type 0} → (A → ℕ) → (A → A → A) → A → (A → A → A) → A → View A → Boxes → ℕ → List A → Type 0
HasDifferences level upper bottom lower top w b rows cells = (x y : ℕ) → x < b.width → y < rows
    → level (slice_index_or cells (y * b.width + x) bottom) ≡ level (over_box upper (merged_cell upper bottom w b.column b.row) b.across b.down x y) - level (over_box lower (merged_cell lower top w b.column b.row) b.across b.down x y)

-- at each place of the tile the one extremum of a neutral cell and the cells that are seen under the element there, less the other
-- extremum of another neutral cell and the same cells
pub record IsSlidingDifference {A : Type 0} (level : A → ℕ) (upper : A → A → A) (bottom : A) (lower : A → A → A) (top : A) (sight : Sight A) (element : List Offset) (tile : Rect) (r : Raster A) : Type 0 where
  pub width : r.width ≡ tile.width
  pub height : r.height ≡ tile.height
  pub size : length r.cells ≡ tile.height * tile.width
  pub cells : (x y : ℕ) (d : A) → x < tile.width → y < tile.height
      → level (slice_index_or r.cells (y * tile.width + x) d) ≡ level (fold upper bottom (seen_under sight element (tile.x + x) (tile.y + y))) - level (fold lower top (seen_under sight element (tile.x + x) (tile.y + y)))
