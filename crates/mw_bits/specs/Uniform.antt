-- Windows of one pixel throughout.
use Rattle.std.specs.Prelude.{◌≡◌, ℕ, ◌+◌, ◌<◌, ℤ, pos, ◌+ℤ◌, ◌≤ℤ◌, List, length, slice_index}
use Rattle.mw_model.specs.declared.offsets.Offset.{Offset}
use Rattle.mw_model.specs.declared.offsets.Rect.{Rect}
use Rattle.mw_offset.specs.mw_element_runs.Runs.{offset_at}

-- all samples are v
abbrev pub HasOnly : ℕ → List ℕ → Type 0
HasOnly v cells = (k : ℕ) → k < length cells → slice_index cells k ≡ v

-- a side of a tile, a step further on, is a part of another
pub record SideStays (tile side : ℕ) (step : ℤ) (first count : ℕ) : Type 0 where
  pub from : pos first ≤ℤ (pos tile +ℤ step)
  pub to : (pos (tile + side) +ℤ step) ≤ℤ pos (first + count)

-- the tile, moved by a step, is a part of the rectangle
pub record TileStays (tile : Rect) (dx dy : ℤ) (place : Rect) : Type 0 where
  pub across : SideStays tile.x tile.width dx place.x place.width
  pub down : SideStays tile.y tile.height dy place.y place.height

-- some offset of the list moves the tile so
abbrev pub SomeStays : Rect → List Offset → Rect → Type 0
SomeStays tile offsets place = (k : ℕ) × (k < length offsets) × TileStays tile (offset_at offsets k).dx (offset_at offsets k).dy place
