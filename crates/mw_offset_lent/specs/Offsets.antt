-- Offsets, and the places that they are among cells that are laid out around a tile.
use Rattle.std.specs.Prelude.{ℕ, ◌+◌, ◌*◌, ◌≤◌, List, length, pos, ◌+ℤ◌, ◌≤ℤ◌}
use Rattle.std.specs.List.{AllByRecursion}
use Rattle.mw_model.specs.declared.offsets.Offset.{Offset}
use Rattle.mw_model.specs.declared.offsets.Rect.{Rect}
use Rattle.mw_model.specs.Rectangles.{nonnegative}
use Rattle.mw_offset_lent.specs.declared.places.Around.{Around}

-- the offset leads no further than so many columns and rows
pub record LeadsWithin (columns rows : ℕ) (b : Offset) : Type 0 where
  pub left : pos 0 ≤ℤ (b.dx +ℤ pos columns)
  pub right : b.dx ≤ℤ pos columns
  pub up : pos 0 ≤ℤ (b.dy +ℤ pos rows)
  pub down : b.dy ≤ℤ pos rows

-- the place of an offset among rows of so many cells, as seen from the first result
abbrev pub place_among : Around → ℕ → Offset → ℕ
place_among a wide b = nonnegative (b.dy +ℤ pos a.down) * wide + nonnegative (b.dx +ℤ pos a.across)

-- few offsets that lead no further than 64 columns and rows, and a tile of two vectors of columns and 8 more; vectors of 4 or more
pub record AreSuited (width : ℕ) (offsets : List Offset) (tile : Rect) : Type 0 where
  pub few : length offsets ≤ 64
  pub near : AllByRecursion (LeadsWithin 64 64) offsets
  pub wide : 2 * width + 8 ≤ tile.width
  pub lanes : 4 ≤ width
