-- Tasks: a tile of a step, what it reads, when it is ready, and what it makes (own).
use Rattle.std.specs.Prelude.{ℕ, ◌+◌, ◌*◌, ◌/◌, ◌%◌, Bool, false, not, ◌&&◌, ◌||◌, nat_lt, nat_eq, if◌then◌else◌, List, [], ◌∷◌, length, map, flat_map, sum, count_by, Option, slice_index_or}
use Rattle.std.specs.List.{range_with_len, list_all, list_any}
use Rattle.mw_model.specs.declared.offsets.Rect.{Rect}
use Rattle.mw_model.specs.Rectangles.{tile_of, grown}
use Rattle.mw_model.specs.Pictures.{Picture}
use Rattle.mw_model.specs.Elements.{reach_of}
use Rattle.mw_model.specs.PlanSteps.{PlanStep, Minus, looks_at, step_at}
use Rattle.mw_model.specs.Plans.{Source, FromInput, FromStep, Planned, Plan, is_sum, no_picture, plane_of_source, sight_of}

-- ---- what a task reads and makes

-- the values in a rectangle, by rows
abbrev pub cells_in : Rect → (ℕ → ℕ → ℕ) → List ℕ
cells_in r value = flat_map (λ j. map (λ i. value (r.x + i) (r.y + j)) (range_with_len 0 r.width)) (range_with_len 0 r.height)

-- what a step makes in a tile: its values there, or of a Sum step their sum
abbrev pub made_in : PlanStep → Rect → (ℕ → ℕ → ℕ) → List ℕ
made_in s tile value = if is_sum s then sum (cells_in tile value) ∷ [] else cells_in tile value

-- the rectangle that a step reads for a tile: the tile grown by the step's reach and cut to the frame
abbrev pub place_read : PlanStep → ℕ → ℕ → Rect → Rect
place_read s width height tile = grown width height (reach_of (looks_at s)) tile

-- what a step makes in a tile of the whole planes of its sources
abbrev pub made_of_planes : PlanStep → List Picture → Rect → List ℕ
made_of_planes s sources tile =
    made_in s tile (step_at s (slice_index_or sources 0 no_picture).maxval (sight_of sources 0) (sight_of sources 1) (sight_of sources 2))

-- ---- the tasks of a pending ticket

-- What is known of the work under a ticket: its plan on a frame that is cut into tiles, and of each task whether it was started, whether it is finished, and what it made where that is kept. Tasks are counted step by step.
pub record Progress : Type 0 where
  pub width : ℕ
  pub height : ℕ
  pub plan : Plan
  pub tiles : List Rect
  pub started : List Bool
  pub finished : List Bool
  pub placed : List (Option (List ℕ))

-- whether a task is marked
abbrev pub flag : List Bool → ℕ → Bool
flag flags n = slice_index_or flags n false

-- how many tasks there are: each step has one for each tile
abbrev pub task_count : Progress → ℕ
task_count p = length p.plan * length p.tiles

-- the number of a task's step
abbrev pub step_number : Progress → ℕ → ℕ
step_number p n = n / length p.tiles

-- the number of a task's tile
abbrev pub tile_number : Progress → ℕ → ℕ
tile_number p n = n % length p.tiles

-- what stands behind the last step
abbrev pub nothing_planned : Planned
nothing_planned = record { step = Minus; sources = [] }

-- the step of a task
abbrev pub planned_of : Progress → ℕ → Planned
planned_of p n = slice_index_or p.plan (step_number p n) nothing_planned

-- the tile of a task
abbrev pub tile_of_task : Progress → ℕ → Rect
tile_of_task p n = tile_of p.tiles (tile_number p n)

-- the rectangle that a task reads
abbrev pub place_of_task : Progress → ℕ → Rect
place_of_task p n = place_read (planned_of p n).step p.width p.height (tile_of_task p n)

-- the source is step k
abbrev pub is_step : ℕ → Source → Bool
is_step k (FromInput i) = false
is_step k (FromStep i) = nat_eq i k

-- n places from a on and m places from b on share one
abbrev pub share : ℕ → ℕ → ℕ → ℕ → Bool
share a n b m = nat_lt a (b + m) && nat_lt b (a + n)

-- the rectangles share a place
abbrev pub meets : Rect → Rect → Bool
meets r q = share r.x r.width q.x q.width && share r.y r.height q.y q.height

-- task n reads what task u makes: u is of a source of its step, and its window meets the tile of u
abbrev pub reads : Progress → ℕ → ℕ → Bool
reads p n u = list_any (is_step (step_number p u)) (planned_of p n).sources && meets (place_of_task p n) (tile_of_task p u)

-- the numbers of all tasks
abbrev pub tasks_below : Progress → List ℕ
tasks_below p = range_with_len 0 (task_count p)

-- the task was not started, and all that it reads is finished
abbrev pub is_ready : Progress → ℕ → Bool
is_ready p n = not (flag p.started n) && list_all (λ u. not (reads p n u) || flag p.finished u) (tasks_below p)

-- the task was started, and is not finished
abbrev pub is_running : Progress → ℕ → Bool
is_running p n = flag p.started n && not (flag p.finished n)

-- how many tasks are ready
abbrev pub ready_tasks : Progress → ℕ
ready_tasks p = count_by (is_ready p) (tasks_below p)

-- how many tasks are running
abbrev pub running_tasks : Progress → ℕ
running_tasks p = count_by (is_running p) (tasks_below p)

-- how many tasks are not finished
abbrev pub remaining_tasks : Progress → ℕ
remaining_tasks p = count_by (λ n. not (flag p.finished n)) (tasks_below p)

-- the task belongs to the last step or to a Sum step, or an unfinished task reads what it makes
abbrev pub is_needed : Progress → ℕ → Bool
is_needed p n =
    nat_eq (step_number p n + 1) (length p.plan) || is_sum (planned_of p n).step || list_any (λ u. not (flag p.finished u) && reads p u n) (tasks_below p)

-- the whole planes of the sources of a task's step
abbrev pub sources_of : Progress → List Picture → List Picture → ℕ → List Picture
sources_of p inputs made n = map (plane_of_source inputs made) (planned_of p n).sources
