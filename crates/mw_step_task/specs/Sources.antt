-- Tasks on windows that were cut from whole planes.
use Rattle.std.specs.Prelude.{◌≡◌, ℕ, List, map}
use Rattle.mw_model.specs.declared.offsets.Rect.{Rect}
use Rattle.mw_model.specs.Rectangles.{IsWithin}
use Rattle.mw_model.specs.Pictures.{Picture}
use Rattle.mw_model.specs.PlanSteps.{PlanStep}
use Rattle.mw_model.specs.Tasks.{place_read}
use Rattle.mw_tile_pieces.specs.mw_tile.Windows.{SourceWindow, window_of}
use Rattle.std.specs.List.{AllByRecursion}

-- the image is of this width and height
pub record HasFrame (m n : ℕ) (f : Picture) : Type 0 where
  pub width : f.width ≡ m
  pub height : f.height ≡ n

-- the windows are what the step reads of the sources for the tile, in a frame of m by n places
pub record AreCut (s : PlanStep) (sources : List Picture) (m n : ℕ) (tile : Rect) (ws : List SourceWindow) : Type 0 where
  pub frames : AllByRecursion (HasFrame m n) sources
  pub within : IsWithin tile m n
  pub cut : ws ≡ map (window_of (place_read s m n tile)) sources
