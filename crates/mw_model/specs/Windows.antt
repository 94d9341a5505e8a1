-- Rectangles of samples that were cut from a frame.
use Rattle.std.specs.Prelude.{ℕ, List, pos, ◌-ℤ◌}
use Rattle.mw_model.specs.declared.offsets.Rect.{Rect}
use Rattle.mw_model.specs.Rasters.{raster, cell_at, Sight}

-- Cells of a place of a frame. They stand by rows.
pub record View (A : Type 0) : Type 0 where
  pub frame_width : ℕ
  pub frame_height : ℕ
  pub place : Rect
  pub cells : List A

-- the cell in a column and row of the frame, where the view has it
abbrev pub seen_at : {A : Type 0} → View A → Sight A
seen_at w column row = cell_at (raster w.place.width w.place.height w.cells) (column -ℤ pos w.place.x) (row -ℤ pos w.place.y)
