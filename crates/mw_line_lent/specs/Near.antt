-- Boxes and tiles of which it is known beforehand that what is lent has vectors of columns for them (own).
use Rattle.std.specs.Prelude.{◌+◌, ◌<◌, ◌≤◌, pos, ◌-ℤ◌, ◌<ℤ◌, ◌≤ℤ◌}
use Rattle.mw_model.specs.declared.offsets.OffsetBox.{OffsetBox}
use Rattle.mw_model.specs.declared.offsets.Rect.{Rect}

-- the box has the place that it is put on, and no side of it has more than 256 places
pub record IsAround (box : OffsetBox) : Type 0 where
  pub left : box.x0 ≤ℤ pos 0
  pub right : pos 0 ≤ℤ box.x1
  pub above : box.y0 ≤ℤ pos 0
  pub below : pos 0 ≤ℤ box.y1
  pub narrow : (box.x1 -ℤ box.x0) <ℤ pos 256
  pub low : (box.y1 -ℤ box.y0) <ℤ pos 256

-- the tile lies in the place, and has a row at least and 32 columns
pub record StandsInside (place tile : Rect) : Type 0 where
  pub left : place.x ≤ tile.x
  pub right : tile.x + tile.width ≤ place.x + place.width
  pub top : place.y ≤ tile.y
  pub bottom : tile.y + tile.height ≤ place.y + place.height
  pub wide : 32 ≤ tile.width
  pub some : 0 < tile.height
