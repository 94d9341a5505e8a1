-- When a result is that of a running task of the work.
use Rattle.std.specs.Prelude.{ℕ, ◌≡◌, ◌<◌, true, List, [], ◌∷◌, length, map, Option, Some, IfSome, slice_index_or}
use Rattle.std.specs.List.{AllByRecursion}
use Rattle.mw_model.specs.declared.offsets.Rect.{Rect}
use Rattle.mw_model.specs.Pictures.{Picture}
use Rattle.mw_model.specs.Plans.{Source}
use Rattle.mw_model.specs.Tasks.{is_running, planned_of, tile_of_task}
use Rattle.mw_grid.specs.Grids.{tile_count}
use Rattle.mw_core_laws.specs.mw_tile.Windows.{SourceWindow}
use Rattle.mw_core_laws.specs.mw_step_task.WindowTasks.{WindowTask, IsBounded}
use Rattle.mw_core_laws.specs.mw_core_planes.Levels.{Level, level_of, level_of_source, levels, no_level}
use Rattle.mw_core_laws.specs.mw_core_progress.ProgressView.{ProgressView, number_of}
use Rattle.mw_core_tasks.specs.SourceWindows.{AreSources, IsTaskOf, IsWindowOf, task_on}
use Rattle.mw_core_tasks.specs.Planning.{levels_read}

-- the level of what a window was cut from
abbrev pub level_of_window : SourceWindow → Level
level_of_window w = record { kind = w.kind; maxval = w.maxval }

-- the number of the task that a result is of
abbrev pub result_number : ProgressView → WindowTask → ℕ
result_number u d = number_of u.progress d.task.step d.task.tile

-- The window is that of the source, if it may be that of any; it is of the level that is read there, and has no sample over its maxval.
pub record WindowIsShown (image : Option Picture) (u : ProgressView) (place : Rect) (s : Source) (w : SourceWindow) : Type 0 where
  pub window : IsWindowOf image u place s (Some w)
  pub level : level_of_window w ≡ level_of_source u.input (levels u.progress.plan u.input) s
  pub bounded : IsBounded w

-- the same of all sources, in order
abbrev pub AreShown : Option Picture → ProgressView → Rect → List Source → List SourceWindow → Type 0
AreShown image u place [] [] = Unit {0}
AreShown image u place [] (w ∷ ws) = ⊥
AreShown image u place (s ∷ ss) [] = ⊥
AreShown image u place (s ∷ ss) (w ∷ ws) = WindowIsShown image u place s w × AreShown image u place ss ws

-- the image that is kept, if one is, is of the level that the work reads
abbrev pub HasLevel : Option Picture → ProgressView → Type 0
HasLevel image u = IfSome image (λ f. level_of f ≡ u.input)

-- The result bears the numbers of a running task of the work, and its step and its rectangle.
pub record IsOfRunning (u : ProgressView) (d : WindowTask) : Type 0 where
  pub within : d.task.step < length u.progress.plan
  pub inside : d.task.tile < tile_count u.tiling
  pub running : is_running u.progress (result_number u d) ≡ true
  pub step : d.step ≡ (planned_of u.progress (result_number u d)).step
  pub rect : d.rect ≡ tile_of_task u.progress (result_number u d)

-- the first window has the level that the step of the result reads first
abbrev pub HasFirstLevel : ProgressView → WindowTask → Type 0
HasFirstLevel u d = slice_index_or (map level_of_window d.windows) 0 no_level ≡ slice_index_or (levels_read u.progress.plan u.input d.task.step) 0 no_level

-- So does it, and its windows are bounded and begin with the level that is read first: what was made of them fits its place, whatever they show.
pub record IsFitOf (u : ProgressView) (d : WindowTask) : Type 0 where
  pub of : IsOfRunning u d
  pub level : HasFirstLevel u d
  pub bounded : AllByRecursion IsBounded d.windows

-- The result is that of a running task, on windows of its sources.
pub record IsResultOf (image : Option Picture) (u : ProgressView) (d : WindowTask) : Type 0 where
  pub fit : IsFitOf u d
  pub task : IsTaskOf image d.task.ticket u (result_number u d) d

-- There are sources on which the result is that of a running task, and the image that is kept, if one is, is of the level that the work reads.
pub record IsFoundOf (image : Option Picture) (u : ProgressView) (d : WindowTask) : Type 0 where
  pub within : d.task.step < length u.progress.plan
  pub inside : d.task.tile < tile_count u.tiling
  pub running : is_running u.progress (result_number u d) ≡ true
  pub sources : List Picture
  pub are : AreSources image u (planned_of u.progress (result_number u d)).sources sources
  pub level : HasLevel image u
  pub is : d ≡ task_on d.task.ticket u (result_number u d) sources
