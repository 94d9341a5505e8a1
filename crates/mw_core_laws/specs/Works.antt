-- The work under a pending ticket, beside a state of the machine: what is planned, and what its tasks are (own).
use Rattle.std.specs.Prelude.{ℕ, ◌≡◌, ◌-◌, ◌<◌, ◌⊎◌, true, false, List, [], ◌∷◌, length, map, Some, None, slice_index_or}
use Rattle.std.specs.List.{AllByRecursion}
use Rattle.mw_model.specs.declared.offsets.Rect.{Rect}
use Rattle.mw_model.specs.declared.operations.Op.{Op}
use Rattle.mw_model.specs.Pictures.{Picture, IsImage}
use Rattle.mw_model.specs.Plans.{Plan, Source, FromInput, FromStep, IsSourceAt, images_of, is_sum, plane_of_source, value_of_planes}
use Rattle.mw_model.specs.Tasks.{Progress, is_ready, is_running, nothing_planned, planned_of, place_of_task, sources_of, step_number, task_count, tile_number, tile_of_task}
use Rattle.mw_model.specs.Values.{ImageValue, value_at, result_of}
use Rattle.mw_model.specs.Refusals.{submission_at, is_image}
use Rattle.mw_model.specs.Machine.{Machine, values}
use Rattle.mw_model.specs.Stands.{IsWork, input_values, inputs_there, true_planes, true_cells}
use Rattle.mw_grid.specs.Grids.{Tiling}
use Rattle.mw_core_progress.specs.mw_tile.Windows.{SourceWindow, window_of}
use Rattle.mw_core_progress.specs.mw_step_task.WindowTasks.{WindowTask}
use Rattle.mw_core_progress.specs.mw_tile_planes.Tiles.{AllPlaced, IsPlaneOf}
use Rattle.mw_core_progress.specs.mw_plan.PlansOf.{AreValuesOf, CanBeMade, HaveFrame, IsPlanOf, inputs_taken, planes_read}
use Rattle.mw_core_progress.specs.mw_plan.Asked.{shape_made}
use Rattle.mw_core_progress.specs.mw_plan.declared.inputs.Input.{Input}
use Rattle.mw_core_progress.specs.mw_core_planes.Levels.{level_of}
use Rattle.mw_core_progress.specs.ProgressView.{IsFramed, ProgressView, IsFinished, IsWhole, plane_at}

-- ---- tasks

-- a task by the definitions: its number, tile, step, and the windows of the whole planes of its sources
abbrev pub true_task : Machine → ℕ → Progress → ℕ → WindowTask
true_task m t p n = record {
  task = record { ticket = t; step = step_number p n; tile = tile_number p n };
  rect = tile_of_task p n;
  step = (planned_of p n).step;
  windows = map (window_of (place_of_task p n)) (sources_of p (images_of (input_values m t)) (true_planes m t p) n);
}

-- the task of these windows
abbrev pub task_of : ℕ → Progress → ℕ → List SourceWindow → WindowTask
task_of t p n ws = record {
  task = record { ticket = t; step = step_number p n; tile = tile_number p n };
  rect = tile_of_task p n;
  step = (planned_of p n).step;
  windows = ws;
}

-- the whole image or plane of a source, by the definitions
abbrev pub true_source : Machine → ℕ → Progress → Source → Picture
true_source m t p s = plane_of_source (images_of (input_values m t)) (true_planes m t p) s

-- the same of all sources of a step
abbrev pub true_sources : Machine → ℕ → Progress → ℕ → List Picture
true_sources m t p k = planes_read p.plan (images_of (input_values m t)) p.width p.height k

-- the task is ready or running
abbrev pub IsReadyOrRuns : Progress → ℕ → Type 0
IsReadyOrRuns p n = (is_ready p n ≡ true) ⊎ (is_running p n ≡ true)

-- the window of a source in a rectangle: of the image, or of each plane that has the tiles that are kept of a step
abbrev pub IsWindowOfSource : ProgressView → Picture → Rect → Source → SourceWindow → Type 0
IsWindowOfSource u image place (FromInput i) w = w ≡ window_of place image
IsWindowOfSource u image place (FromStep k) w = (f : Picture) → IsPlaneOf (plane_at u k) f → w ≡ window_of place f

-- the same of all, source by source
abbrev pub AreWindowsOfSources : ProgressView → Picture → Rect → List Source → List SourceWindow → Type 0
AreWindowsOfSources u image place [] [] = Unit {0}
AreWindowsOfSources u image place [] (w ∷ ws) = ⊥
AreWindowsOfSources u image place (s ∷ ss) [] = ⊥
AreWindowsOfSources u image place (s ∷ ss) (w ∷ ws) = IsWindowOfSource u image place s w × AreWindowsOfSources u image place ss ws

-- ---- what is known of the work under a ticket

-- What is planned under a ticket: its command takes one image, within its limits and of the level that the work reads; each step can be made of its true planes; and the last step makes an image where the result is one.
pub record IsPlanned (m : Machine) (t : ℕ) (u : ProgressView) : Type 0 where
  pub image : Picture
  pub images : images_of (input_values m t) ≡ image ∷ []
  pub limits : IsImage image
  pub input : u.input ≡ level_of image
  pub made : (k : ℕ) → k < length u.progress.plan
      → CanBeMade (slice_index_or u.progress.plan k nothing_planned).step (planes_read u.progress.plan (images_of (input_values m t)) u.progress.width u.progress.height k)
  pub last : is_image (submission_at m.table.submissions t).shape ≡ true → is_sum (slice_index_or u.progress.plan (length u.progress.plan - 1) nothing_planned).step ≡ false

-- What is kept of the tasks is what they make by the definitions, of a plan that means the command. Unlike work, this also holds of a ticket whose last task is finished.
pub record KeepsTrue (m : Machine) (t : ℕ) (p : Progress) : Type 0 where
  pub means : value_of_planes (submission_at m.table.submissions t).shape p.plan (true_planes m t p) ≡ value_at (values m) t
  pub frames : AllByRecursion (λ (f : Picture). (f.width ≡ p.width) × (f.height ≡ p.height)) (images_of (input_values m t))
  pub sources : (k : ℕ) → AllByRecursion (IsSourceAt (length (images_of (input_values m t))) k) (slice_index_or p.plan k nothing_planned).sources
  pub placed : (n : ℕ) (cells : List ℕ) → slice_index_or p.placed n None ≡ Some cells → cells ≡ true_cells m t p n

-- What is known of the work under a ticket that is pending, also once its last task is finished.
pub record IsTrueWork (m : Machine) (t : ℕ) (u : ProgressView) : Type 0 where
  pub whole : IsWhole u
  pub planned : IsPlanned m t u
  pub keeps : KeepsTrue m t u.progress

-- What is known of the work under a pending ticket.
pub record IsUnder (m : Machine) (t : ℕ) (u : ProgressView) : Type 0 where
  pub whole : IsWhole u
  pub planned : IsPlanned m t u
  pub work : IsWork m t u.progress

-- ---- events

-- what the work under a ticket rests on is the same in both states, and inputs that were there are there
pub record GoesOnUnder (m n : Machine) (t : ℕ) : Type 0 where
  pub submission : submission_at n.table.submissions t ≡ submission_at m.table.submissions t
  pub value : value_at (values n) t ≡ value_at (values m) t
  pub inputs : input_values n t ≡ input_values m t
  pub there : inputs_there m.table t ≡ true → inputs_there n.table t ≡ true

-- a running task is finished, and made its cells by the definitions
pub record Finishes (m : Machine) (t : ℕ) (old new : ProgressView) (n : ℕ) : Type 0 where
  pub cells : List ℕ
  pub is : cells ≡ true_cells m t old.progress n
  pub finished : IsFinished old new n cells
  pub within : n < task_count old.progress
  pub running : is_running old.progress n ≡ true
  pub whole : IsWhole new

-- ---- results

-- The image that stands under a ticket of which all tasks are finished: what is kept of the last step is all of it.
pub record IsResultImage (m : Machine) (t : ℕ) (u : ProgressView) : Type 0 where
  pub image : Picture
  pub value : value_at (values m) t ≡ Some (ImageValue image)
  pub plane : IsPlaneOf (plane_at u (length u.progress.plan - 1)) image
  pub full : AllPlaced (plane_at u (length u.progress.plan - 1))

-- ---- commands that were accepted

-- What is known of an operation that stands under a ticket: these are its inputs, this plan means it, its tiles are those of the frame of its images, and its value is its result.
pub record IsAccepted (m : Machine) (t : ℕ) (o : Op) (a b c : Input) (plan : Plan) (g : Tiling) : Type 0 where
  pub planned : IsPlanOf o a b c plan
  pub inputs : AreValuesOf (inputs_taken o a b c) (input_values m t)
  pub shape : (submission_at m.table.submissions t).shape ≡ shape_made o a
  pub value : value_at (values m) t ≡ result_of o (input_values m t)
  pub frames : HaveFrame g.width g.height (images_of (input_values m t))
  pub tiling : IsFramed g
