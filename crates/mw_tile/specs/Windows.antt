-- Windows of a frame: what they have of it, and the samples of a source in one (own).
use Rattle.std.specs.Prelude.{◌≡◌, ℕ, ◌+◌, ◌*◌, ◌<◌, List, [], length, slice_get}
use Rattle.mw_model.specs.declared.offsets.Offset.{Offset}
use Rattle.mw_model.specs.declared.offsets.Rect.{Rect}
use Rattle.mw_model.specs.declared.shapes.Kind.{Kind}
use Rattle.mw_model.specs.declared.shapes.Kind.TheVariants as kind
use Rattle.mw_model.specs.Rectangles.{rect, IsWithin}
use Rattle.mw_model.specs.Rasters.{Raster}
use Rattle.mw_model.specs.Pictures.{Picture, sample}
use Rattle.mw_model.specs.Windows.{View}
use Rattle.mw_model.specs.Tasks.{cells_in}
use Rattle.mw_grid.specs.Rectangles.{ReachesAll, whole_frame}

-- the view has the cells that the frame has there
pub record IsCut {A : Type 0} (w : View A) (f : Raster A) : Type 0 where
  pub frame_width : w.frame_width ≡ f.width
  pub frame_height : w.frame_height ≡ f.height
  pub within : IsWithin w.place f.width f.height
  pub size : length w.cells ≡ w.place.height * w.place.width
  pub same : (i j : ℕ) → i < w.place.width → j < w.place.height
      → slice_get w.cells (j * w.place.width + i) ≡ slice_get f.cells ((w.place.y + j) * f.width + (w.place.x + i))

-- the view was cut from the frame and has all that lies under the element placed in the tile
pub record IsWindow {A : Type 0} (w : View A) (f : Raster A) (element : List Offset) (tile : Rect) : Type 0 where
  pub cut : IsCut w f
  pub reaches : ReachesAll w.place f.width f.height element tile

-- The samples of a source in a rectangle, with its kind and maxval.
pub record SourceWindow : Type 0 where
  pub kind : Kind
  pub maxval : ℕ
  pub view : View ℕ

-- what stands behind the last window: nothing
abbrev pub no_window : SourceWindow
no_window = record { kind = kind.Bit; maxval = 0; view = record { frame_width = 0; frame_height = 0; place = rect 0 0 0 0; cells = [] } }

-- the window of an image in a rectangle of its frame
abbrev pub window_of : Rect → Picture → SourceWindow
window_of place f = record {
  kind = f.kind;
  maxval = f.maxval;
  view = record { frame_width = f.width; frame_height = f.height; place = place; cells = cells_in place (sample f) };
}

-- the window that has the whole of an image
abbrev pub whole_window : Picture → SourceWindow
whole_window f = window_of (whole_frame f.width f.height) f
