-- Tilings of a frame, and which of them a grid may be (own).
use Rattle.std.specs.Prelude.{◌≡◌, ℕ, ◌+◌, ◌-◌, ◌*◌, ◌/◌, ◌%◌, ◌≤◌, min, List, map}
use Rattle.std.specs.List.{range_with_len}
use Rattle.mw_model.specs.declared.limits.TheConstants.{SIDE_LIMIT, TILE_SIDE_LIMIT, TILE_SIDE_UNIT}
use Rattle.mw_model.specs.declared.offsets.Rect.{Rect}
use Rattle.mw_model.specs.Rectangles.{rect}

-- A frame that is cut into squares of one side; the last of a row and of a column end with the frame.
pub record Tiling : Type 0 where
  pub width : ℕ
  pub height : ℕ
  pub side : ℕ

-- how many tiles stand in a row
abbrev pub columns_of : Tiling → ℕ
columns_of g = (g.width - 1) / g.side + 1

-- how many rows of tiles there are
abbrev pub rows_of : Tiling → ℕ
rows_of g = (g.height - 1) / g.side + 1

-- how many tiles there are
abbrev pub tile_count : Tiling → ℕ
tile_count g = rows_of g * columns_of g

-- the tile of a number; tiles are counted by rows
abbrev pub tile_at : Tiling → ℕ → Rect
tile_at g i =
    rect (i % columns_of g * g.side) (i / columns_of g * g.side) (min g.side (g.width - i % columns_of g * g.side)) (min g.side (g.height - i / columns_of g * g.side))

-- all tiles, in order
abbrev pub tiles_of : Tiling → List Rect
tiles_of g = map (tile_at g) (range_with_len 0 (tile_count g))

-- a frame of this width and height in tiles of this side
abbrev pub tiling : ℕ → ℕ → ℕ → Tiling
tiling width height side = record { width = width; height = height; side = side }

-- tiles may have this side, in pixels
abbrev pub IsTileSide : ℕ → Type 0
IsTileSide side = (TILE_SIDE_UNIT ≤ side) × (side ≤ TILE_SIDE_LIMIT) × (side % TILE_SIDE_UNIT ≡ 0)

-- a frame with the sides of an image, in tiles of a side that they may have
pub record IsTiling (g : Tiling) : Type 0 where
  pub wide : 1 ≤ g.width
  pub narrow : g.width ≤ SIDE_LIMIT
  pub high : 1 ≤ g.height
  pub low : g.height ≤ SIDE_LIMIT
  pub side : IsTileSide g.side
