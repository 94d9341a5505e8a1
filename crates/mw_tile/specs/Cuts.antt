-- Samples of a rectangle of a frame.
use Rattle.std.specs.Prelude.{◌≡◌, ℕ, ◌+◌, ◌*◌, ◌<◌, List, length, slice_get}
use Rattle.mw_model.specs.declared.offsets.Rect.{Rect}
use Rattle.mw_model.specs.Rectangles.{Holds}
use Rattle.mw_model.specs.Rasters.{Raster}
use Rattle.mw_model.specs.Windows.{View}
use Rattle.mw_grid.specs.Rectangles.{whole_frame}

-- cells of a place of a frame with these sides
abbrev pub view_of : {A : Type 0} → ℕ → ℕ → Rect → List A → View A
view_of frame_width frame_height place cells = record { frame_width = frame_width; frame_height = frame_height; place = place; cells = cells }

-- a part of samples, as those of this place of the frame
abbrev pub stood_at : {A : Type 0} → Raster A → Rect → Raster A → View A
stood_at f place part = view_of f.width f.height place part.cells

-- the rectangle of a whole frame
abbrev pub whole_of : {A : Type 0} → Raster A → Rect
whole_of f = whole_frame f.width f.height

-- the new frame has the part in the rectangle, and elsewhere what the old one has
pub record Pastes {A : Type 0} (old new part : Raster A) (r : Rect) : Type 0 where
  pub width : new.width ≡ old.width
  pub height : new.height ≡ old.height
  pub size : length new.cells ≡ length old.cells
  pub inside : (i j : ℕ) → i < r.width → j < r.height → slice_get new.cells ((r.y + j) * old.width + (r.x + i)) ≡ slice_get part.cells (j * r.width + i)
  pub outside : (x y : ℕ) → x < old.width → ¬ Holds r x y → slice_get new.cells (y * old.width + x) ≡ slice_get old.cells (y * old.width + x)
