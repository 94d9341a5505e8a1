-- Planes of steps that are made, as long as they are kept, and what a step reads of them (own).
use Rattle.std.specs.Prelude.{◌≡◌, ℕ, ◌<◌, ◌≤◌, false, true, Bool, List, length, map, Option, Some, None, IsSome, IfSome, slice_index_or, unwrap_or}
use Rattle.std.specs.List.{AllByRecursion, list_any}
use Rattle.mw_model.specs.declared.limits.TheConstants.{SIDE_LIMIT}
use Rattle.mw_model.specs.Pictures.{Picture}
use Rattle.mw_model.specs.Plans.{Plan, Planned, Source, FromInput, FromStep, no_picture}
use Rattle.mw_model.specs.Tasks.{flag, is_step, nothing_planned}
use Rattle.mw_grid.specs.Rectangles.{whole_frame}
pub use Rattle.mw_tile.specs.Windows.{whole_window}
use Rattle.mw_step_task.specs.Sources.{HasFrame}
use Rattle.mw_step_task.specs.WindowTasks.{WindowTask, IsBounded}
use Rattle.mw_plan.specs.PlansOf.{CanBeMade}

-- what is kept of the plane of a step
abbrev pub kept_at : List (Option Picture) → ℕ → Option Picture
kept_at planes k = slice_index_or planes k None

-- nothing is kept
abbrev pub IsEmpty : List (Option Picture) → Type 0
IsEmpty planes = (j : ℕ) → kept_at planes j ≡ None

-- the plane of a source, of the image and of the planes that are kept
abbrev pub plane_kept : Picture → List (Option Picture) → Source → Picture
plane_kept image planes (FromInput k) = image
plane_kept image planes (FromStep k) = unwrap_or (kept_at planes k) no_picture

-- the plane of the source is kept
abbrev pub IsThere : List (Option Picture) → Source → Type 0
IsThere planes (FromInput k) = Unit {0}
IsThere planes (FromStep k) = IsSome (kept_at planes k)

-- the planes that a step reads, of those that are kept
abbrev pub sources_kept : Picture → List (Option Picture) → Planned → List Picture
sources_kept image planes s = map (plane_kept image planes) s.sources

-- The sources of the step are kept, all of the image's frame, and the step can be made of them.
pub record IsReady (image : Picture) (planes : List (Option Picture)) (s : Planned) : Type 0 where
  pub there : AllByRecursion (IsThere planes) s.sources
  pub frames : AllByRecursion (HasFrame image.width image.height) (sources_kept image planes s)
  pub can : CanBeMade s.step (sources_kept image planes s)
  pub wide : 1 ≤ image.width
  pub narrow : image.width ≤ SIDE_LIMIT
  pub high : 1 ≤ image.height
  pub low : image.height ≤ SIDE_LIMIT

-- The task is the step's for the whole frame, with the whole of each source.
pub record IsWholeTask (image : Picture) (planes : List (Option Picture)) (s : Planned) (t : WindowTask) : Type 0 where
  pub step : t.step ≡ s.step
  pub place : t.rect ≡ whole_frame image.width image.height
  pub windows : t.windows ≡ map (λ x. whole_window (plane_kept image planes x)) s.sources
  pub bounded : AllByRecursion IsBounded t.windows

-- the source is the image, or a step that is made
abbrev pub SourceIsMade : List Bool → Source → Type 0
SourceIsMade made (FromInput i) = Unit {0}
SourceIsMade made (FromStep i) = flag made i ≡ true

-- the source, if it is a step that is made, is kept
abbrev pub IsThereIfMade : List Bool → List (Option Picture) → Source → Type 0
IsThereIfMade made planes (FromInput i) = Unit {0}
IsThereIfMade made planes (FromStep i) = flag made i ≡ true → IsSome (kept_at planes i)

-- A step of the plan that is not made yet reads step k.
pub record IsWanted (plan : Plan) (made : List Bool) (k : ℕ) : Type 0 where
  pub reader : ℕ
  pub within : reader < length plan
  pub unmade : flag made reader ≡ false
  pub reads : list_any (is_step k) (slice_index_or plan reader nothing_planned).sources ≡ true

-- what is kept of the source, if it is a step, is read by one that is not made yet
abbrev pub IsKeptWanted : Plan → List Bool → List (Option Picture) → Source → Type 0
IsKeptWanted plan made planes (FromInput i) = Unit {0}
IsKeptWanted plan made planes (FromStep i) = IfSome (kept_at planes i) (λ f. IsWanted plan made i)

-- What was kept is kept or dropped, and what a step that is not made yet reads is not dropped.
pub record KeepsRead (plan : Plan) (made : List Bool) (old new : List (Option Picture)) : Type 0 where
  pub count : length new ≡ length old
  pub same : (j : ℕ) → IfSome (kept_at new j) (λ f. kept_at old j ≡ Some f)
  pub read : (i : ℕ) → i < length plan → flag made i ≡ false → AllByRecursion (IsThereIfMade made old) (slice_index_or plan i nothing_planned).sources → AllByRecursion (IsThereIfMade made new) (slice_index_or plan i nothing_planned).sources
