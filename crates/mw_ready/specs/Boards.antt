-- Which tasks of a plan on a grid read which, and which of them are ready (own).
use Rattle.std.specs.Prelude.{◌≡◌, ℕ, ◌+◌, ◌*◌, ◌/◌, ◌%◌, ◌<◌, Bool, true, false, not, ◌&&◌, ◌||◌, nat_eq, List, [], Option, Some, None, length, replicate, count_by, slice_index_or}
use Rattle.std.specs.List.{range_with_len, list_all, list_any}
use Rattle.mw_model.specs.declared.offsets.Rect.{Rect}
use Rattle.mw_model.specs.Rectangles.{grown}
use Rattle.mw_model.specs.Tasks.{flag, meets}
use Rattle.mw_grid.specs.Grids.{Tiling, tile_count, tile_at}
use Rattle.mw_ready.specs.declared.need.Need.{Need}

-- the step that is read, if any, is s
abbrev pub is_source : ℕ → Option ℕ → Bool
is_source s None = false
is_source s (Some k) = nat_eq k s

-- one with this need reads step s
abbrev pub step_reads : Need → ℕ → Bool
step_reads n s = list_any (is_source s) n.steps

-- what stands behind the last need: one that reads nothing
abbrev pub no_need : Need
no_need = record { reach = record { left = 0; right = 0; up = 0; down = 0 }; steps = [] }

-- the number of a task: they are counted step by step, in each step by tiles
abbrev pub task_number : Tiling → ℕ → ℕ → ℕ
task_number g step tile = step * tile_count g + tile

-- the step of a task
abbrev pub step_on_grid : Tiling → ℕ → ℕ
step_on_grid g n = n / tile_count g

-- the tile of a task
abbrev pub tile_on_grid : Tiling → ℕ → Rect
tile_on_grid g n = tile_at g (n % tile_count g)

-- the need of a task's step
abbrev pub need_of : List Need → Tiling → ℕ → Need
need_of needs g n = slice_index_or needs (step_on_grid g n) no_need

-- the rectangle that a task reads: its tile grown by the reach and cut to the frame
abbrev pub place_by_needs : List Need → Tiling → ℕ → Rect
place_by_needs needs g n = grown g.width g.height (need_of needs g n).reach (tile_on_grid g n)

-- the task reads this tile of this step
abbrev pub reads_tile : List Need → Tiling → ℕ → ℕ → ℕ → Bool
reads_tile needs g n step tile = step_reads (need_of needs g n) step && meets (place_by_needs needs g n) (tile_at g tile)

-- task n reads what task u makes
abbrev pub reads_by_needs : List Need → Tiling → ℕ → ℕ → Bool
reads_by_needs needs g n u = reads_tile needs g n (step_on_grid g u) (u % tile_count g)

-- What the steps of a plan need on a grid, and which of its tasks were started and are finished.
pub record Schedule : Type 0 where
  pub needs : List Need
  pub grid : Tiling
  pub started : List Bool
  pub finished : List Bool

-- how many tasks there are
abbrev pub task_count_on : Schedule → ℕ
task_count_on b = length b.needs * tile_count b.grid

-- the numbers of all tasks
abbrev pub tasks_on : Schedule → List ℕ
tasks_on b = range_with_len 0 (task_count_on b)

-- the task was not started, and all that it reads is finished
abbrev pub is_ready_on : Schedule → ℕ → Bool
is_ready_on b n = not (flag b.started n) && list_all (λ u. not (reads_by_needs b.needs b.grid n u) || flag b.finished u) (tasks_on b)

-- the task was started, and is not finished
abbrev pub is_running_on : Schedule → ℕ → Bool
is_running_on b n = flag b.started n && not (flag b.finished n)

-- how many tasks are ready
abbrev pub ready_tasks_on : Schedule → ℕ
ready_tasks_on b = count_by (is_ready_on b) (tasks_on b)

-- how many tasks are running
abbrev pub running_tasks_on : Schedule → ℕ
running_tasks_on b = count_by (is_running_on b) (tasks_on b)

-- how many tasks are not finished
abbrev pub remaining_tasks_on : Schedule → ℕ
remaining_tasks_on b = count_by (λ n. not (flag b.finished n)) (tasks_on b)

-- the board on which nothing was started
abbrev pub fresh_schedule : List Need → Tiling → Schedule
fresh_schedule needs g = record {
  needs = needs;
  grid = g;
  started = replicate (length needs * tile_count g) false;
  finished = replicate (length needs * tile_count g) false;
}

-- A board, and its ready tasks in the order in which they are handed out.
pub record Turns : Type 0 where
  pub board : Schedule
  pub order : List ℕ

-- the task of this step and tile is running
pub record RunsOn (b : Schedule) (step tile : ℕ) : Type 0 where
  pub within : step < length b.needs
  pub inside : tile < tile_count b.grid
  pub running : is_running_on b (task_number b.grid step tile) ≡ true
