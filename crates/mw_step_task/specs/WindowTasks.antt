-- A task with the windows that it reads (own).
use Rattle.std.specs.Prelude.{◌≡◌, ℕ, ◌≤◌, List, length, All, slice_index_or}
use Rattle.std.specs.List.{AllByRecursion}
use Rattle.mw_model.specs.declared.offsets.Rect.{Rect}
use Rattle.mw_model.specs.declared.tasks.TaskId.{TaskId}
use Rattle.mw_model.specs.declared.shapes.Kind.TheVariants as kind
use Rattle.mw_model.specs.declared.limits.TheConstants.{SIDE_LIMIT}
use Rattle.mw_model.specs.Rectangles.{IsWithin}
use Rattle.mw_model.specs.Pictures.{Picture}
use Rattle.mw_model.specs.Rasters.{Sight}
use Rattle.mw_model.specs.Windows.{seen_at}
use Rattle.mw_model.specs.PlanSteps.{PlanStep, Minus, Meet, Join, Blank, Mark, MarkLast, step_at, kind_of_step, maxval_of_step}
use Rattle.mw_model.specs.Tasks.{place_read, made_in}
use Rattle.mw_tile_pieces.specs.mw_tile.Windows.{SourceWindow, no_window}

-- what is seen of a window in this place of the argument list
abbrev pub sight_of_window : List SourceWindow → ℕ → Sight ℕ
sight_of_window windows k = seen_at (slice_index_or windows k no_window).view

-- what a step makes in a tile of these windows
abbrev pub made_of_windows : PlanStep → List SourceWindow → Rect → List ℕ
made_of_windows s windows tile =
    made_in s tile (step_at s (slice_index_or windows 0 no_window).maxval (sight_of_window windows 0) (sight_of_window windows 1) (sight_of_window windows 2))

-- A task: what to make, in which tile, from which windows.
pub record WindowTask : Type 0 where
  pub task : TaskId
  pub rect : Rect
  pub step : PlanStep
  pub windows : List SourceWindow

-- how many sources a step has
abbrev pub source_count : PlanStep → ℕ
source_count Minus = 2
source_count Meet = 2
source_count Join = 2
source_count (Blank m) = 0
source_count (Mark v) = 3
source_count (MarkLast v) = 2
source_count s = 1

-- the window of a source
abbrev pub window_at : List SourceWindow → ℕ → SourceWindow
window_at windows k = slice_index_or windows k no_window

-- both sources are of one kind and maxval
abbrev pub SameKind : SourceWindow → SourceWindow → Type 0
SameKind v w = (v.kind ≡ w.kind) × (v.maxval ≡ w.maxval)

-- the source is a set
abbrev pub IsSetWindow : SourceWindow → Type 0
IsSetWindow w = w.kind ≡ kind.Bit

-- images that are put together are of one kind and maxval, marked places are sets, and a mark is a level of what is marked
abbrev pub KindsFit : PlanStep → List SourceWindow → Type 0
KindsFit Minus windows = SameKind (window_at windows 0) (window_at windows 1)
KindsFit Meet windows = SameKind (window_at windows 0) (window_at windows 1)
KindsFit Join windows = SameKind (window_at windows 0) (window_at windows 1)
KindsFit (Blank m) windows = 1 ≤ m
KindsFit (Mark v) windows = (v ≤ (window_at windows 0).maxval) × IsSetWindow (window_at windows 1) × IsSetWindow (window_at windows 2)
KindsFit (MarkLast v) windows = (v ≤ (window_at windows 0).maxval) × IsSetWindow (window_at windows 1)
KindsFit s windows = Unit {0}

-- the window is what the step reads for the tile, in a frame of m by n places, which is within the limits of an image
pub record IsRead (s : PlanStep) (tile : Rect) (m n : ℕ) (w : SourceWindow) : Type 0 where
  pub width : w.view.frame_width ≡ m
  pub height : w.view.frame_height ≡ n
  pub narrow : m ≤ SIDE_LIMIT
  pub low : n ≤ SIDE_LIMIT
  pub within : IsWithin tile m n
  pub place : w.view.place ≡ place_read s m n tile

-- the windows are those that the step reads for the tile
pub record FitsStep (s : PlanStep) (tile : Rect) (windows : List SourceWindow) : Type 0 where
  pub count : length windows ≡ source_count s
  pub wide : 1 ≤ tile.width
  pub high : 1 ≤ tile.height
  pub each : AllByRecursion (IsRead s tile (window_at windows 0).view.frame_width (window_at windows 0).view.frame_height) windows
  pub kinds : KindsFit s windows

-- no sample is over the maxval of its source
abbrev pub IsBounded : SourceWindow → Type 0
IsBounded w = All (λ n. n ≤ w.maxval) w.view.cells

-- the image that a task makes of its tile
abbrev pub tile_made : WindowTask → Picture
tile_made t = record {
  kind = kind_of_step t.step (window_at t.windows 0).kind;
  width = t.rect.width;
  height = t.rect.height;
  maxval = maxval_of_step t.step (window_at t.windows 0).maxval;
  samples = made_of_windows t.step t.windows t.rect;
}
