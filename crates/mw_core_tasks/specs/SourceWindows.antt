-- The windows that a task reads, off what is kept of its sources.
use Rattle.std.specs.Prelude.{ℕ, ◌≡◌, ◌<◌, true, false, List, [], ◌∷◌, length, map, Option, Some, None, slice_index_or}
use Rattle.mw_model.specs.declared.offsets.Rect.{Rect}
use Rattle.mw_model.specs.declared.submissions.Submission.{Submission}
use Rattle.mw_model.specs.declared.shapes.Shape.TheVariants as shape
use Rattle.std.specs.List.{AllByRecursion}
use Rattle.mw_model.specs.Pictures.{Picture}
use Rattle.mw_model.specs.Values.{option_list}
use Rattle.mw_model.specs.Refusals.{Table, shape_at, submission_at, is_element}
use Rattle.mw_model.specs.Plans.{Source, FromInput, FromStep, is_sum}
use Rattle.mw_model.specs.Tasks.{is_ready, nothing_planned, planned_of, place_of_task, task_count, step_number, tile_number, tile_of_task}
use Rattle.mw_core_laws.specs.mw_step_task.Sources.{HasFrame}
use Rattle.mw_core_laws.specs.mw_step_task.WindowTasks.{WindowTask, FitsStep, IsBounded}
use Rattle.mw_core_laws.specs.mw_tile.Windows.{SourceWindow, window_of}
use Rattle.mw_core_laws.specs.mw_tile_planes.Tiles.{HasAll, IsPlaneOf}
use Rattle.mw_core_laws.specs.mw_core_progress.ProgressView.{ProgressView, IsStarted, IsWhole, plane_at}

-- The work reads the first input of its command, an image of its level and frame; the others are elements.
pub record IsInput (w : Table) (e : Submission) (u : ProgressView) : Type 0 where
  pub image : ℕ
  pub first : e.inputs.a ≡ Some image
  pub shape : shape_at w.submissions image ≡ shape.Image u.input.kind u.tiling.width u.tiling.height u.input.maxval
  pub second : AllByRecursion (λ i. is_element (shape_at w.submissions i) ≡ true) (option_list e.inputs.b)
  pub third : AllByRecursion (λ i. is_element (shape_at w.submissions i) ≡ true) (option_list e.inputs.c)

-- the same of the work under a ticket
abbrev pub IsInputOfTicket : Table → ℕ → ProgressView → Type 0
IsInputOfTicket w t u = IsInput w (submission_at w.submissions t) u

-- the image may be the whole plane of the source: the one that is kept of the input, or one of those of which the tiles of the step are a part
abbrev pub IsSource : Option Picture → ProgressView → Source → Picture → Type 0
IsSource image u (FromInput k) f = (image ≡ Some f) × HasFrame u.tiling.width u.tiling.height f
IsSource image u (FromStep k) f = IsPlaneOf (plane_at u k) f

-- the same of all sources, in order
abbrev pub AreSources : Option Picture → ProgressView → List Source → List Picture → Type 0
AreSources image u [] [] = Unit {0}
AreSources image u [] (f ∷ fs) = ⊥
AreSources image u (s ∷ ss) [] = ⊥
AreSources image u (s ∷ ss) (f ∷ fs) = IsSource image u s f × AreSources image u ss fs

-- the task of this number on these sources
abbrev pub task_on : ℕ → ProgressView → ℕ → List Picture → WindowTask
task_on t u n fs = record {
  task = record { ticket = t; step = step_number u.progress n; tile = tile_number u.progress n };
  rect = tile_of_task u.progress n;
  step = (planned_of u.progress n).step;
  windows = map (window_of (place_of_task u.progress n)) fs;
}

-- the task is that of this number, whatever its sources are
abbrev pub IsTaskOf : Option Picture → ℕ → ProgressView → ℕ → WindowTask → Type 0
IsTaskOf image t u n w = (fs : List Picture) → AreSources image u (planned_of u.progress n).sources fs → w ≡ task_on t u n fs

-- there is no such task: its windows would not fit its step
abbrev pub IsNoTask : Option Picture → ProgressView → ℕ → Type 0
IsNoTask image u n =
    (fs : List Picture) → AreSources image u (planned_of u.progress n).sources fs → FitsStep (planned_of u.progress n).step (tile_of_task u.progress n) (map (window_of (place_of_task u.progress n)) fs) → ⊥

-- the source is the image that the work reads, or the plane of one of its steps
abbrev pub IsOfWork : ProgressView → Source → Type 0
IsOfWork u (FromInput k) = Unit {0}
IsOfWork u (FromStep k) = (k < length u.progress.plan) × (is_sum (slice_index_or u.progress.plan k nothing_planned).step ≡ false)

-- the source can be read in this place: all tiles of the step there are kept
abbrev pub CanRead : ProgressView → Rect → Source → Type 0
CanRead u place (FromInput k) = Unit {0}
CanRead u place (FromStep k) =
    (k < length u.progress.plan) × (is_sum (slice_index_or u.progress.plan k nothing_planned).step ≡ false) × HasAll u.tiling (plane_at u k).tiles place

-- the same of all sources
abbrev pub CanReadAll : ProgressView → Rect → List Source → Type 0
CanReadAll u place sources = AllByRecursion (CanRead u place) sources

-- this is the window of the source, if it may be that of any
abbrev pub IsWindowOf : Option Picture → ProgressView → Rect → Source → Option SourceWindow → Type 0
IsWindowOf image u place s w = (f : Picture) → IsSource image u s f → w ≡ Some (window_of place f)

-- these are the windows of the sources, if they may be those of any
abbrev pub AreWindowsOf : Option Picture → ProgressView → Rect → List Source → Option (List SourceWindow) → Type 0
AreWindowsOf image u place ss ws = (fs : List Picture) → AreSources image u ss fs → ws ≡ Some (map (window_of place) fs)

-- this is the task of the number under the ticket, or there is none
abbrev pub IsTaskOrNone : Option Picture → ℕ → ProgressView → ℕ → Option WindowTask → Type 0
IsTaskOrNone image t u n (Some w) = IsTaskOf image t u n w × (w.task.ticket ≡ t) × AllByRecursion IsBounded w.windows
IsTaskOrNone image t u n None = IsNoTask image u n

-- A ready task of this number is started; it is the true one of the work, and bears the ticket.
pub record TakesOne (image : Option Picture) (t : ℕ) (old : ProgressView) (n : ℕ) (new : ProgressView) (w : WindowTask) : Type 0 where
  pub within : n < task_count old.progress
  pub ready : is_ready old.progress n ≡ true
  pub task : IsTaskOf image t old n w
  pub ticket : w.task.ticket ≡ t
  pub bounded : AllByRecursion IsBounded w.windows
  pub started : IsStarted old new n
  pub whole : IsWhole new

-- the ready task of this number is taken; or there is none, and nothing changes
abbrev pub Takes : Option Picture → ℕ → ProgressView → ℕ → ProgressView → Option WindowTask → Type 0
Takes image t old n new (Some w) = TakesOne image t old n new w
Takes image t old n new None = (n < task_count old.progress) × (is_ready old.progress n ≡ true) × IsNoTask image old n × (new ≡ old)
