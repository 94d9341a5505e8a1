-- The board of the tasks, beside the work that it shows.
use Rattle.std.proofs.Common.{◌≡◌, ℕ, ◌+◌, ◌*◌, ◌<◌, true, List, length, refl, sym, ap, subst, ◌∙◌}
use Rattle.mw_model.specs.Plans.{Plan}
use Rattle.mw_model.specs.Tasks as tasks
use Rattle.mw_model.specs.Tasks.{Progress}
use Rattle.mw_grid.specs.Grids.{Tiling, tile_count, tiles_of}
use Rattle.mw_grid.proofs.Lines.{number_of as number_of_cell}
use Rattle.mw_grid.proofs.Tiles.{length-tiles_of}
use Rattle.mw_core_planes.specs.mw_ready.Boards.{Schedule, RunsOn, task_number, task_count_on, is_ready_on, ready_tasks_on}
use Rattle.mw_core_planes.specs.mw_ready.Work.{IsBoardOf, SameTasks}
use Rattle.mw_core_planes.specs.mw_tile_planes.Tiles.{Tiled}
use Rattle.mw_core_planes.specs.Levels.{Level}
use Rattle.mw_core_progress.specs.ProgressView.{number_of}
use Rattle.mw_core_progress.specs.Parts.{underway, IsBoarded}

pub board_shows : (plan : Plan) (input : Level) (g : Tiling) (b : Schedule) (planes : List Tiled) (order : List ℕ) → IsBoarded plan g b → IsBoardOf b (underway plan input g b.started b.finished planes order).progress
board_shows plan input g b planes order boarded = record {
  width = ap (λ (t : Tiling). t.width) (sym boarded.grid);
  height = ap (λ (t : Tiling). t.height) (sym boarded.grid);
  tiles = ap tiles_of (sym boarded.grid);
  steps = boarded.steps;
  needs = boarded.needs;
  started = refl;
  finished = refl;
}

-- the tasks of a board are those of the work that it shows
abbrev pub IsTied : Schedule → Type 0
IsTied b = (p : Progress) → IsBoardOf b p → SameTasks b p

pub same_work : (plan : Plan) (input : Level) (g : Tiling) (b : Schedule) (planes : List Tiled) (order : List ℕ) → IsBoarded plan g b → IsTied b → SameTasks b (underway plan input g b.started b.finished planes order).progress
same_work plan input g b planes order boarded tied =
    tied (underway plan input g b.started b.finished planes order).progress (board_shows plan input g b planes order boarded)

-- the number of a task
pub number_is : (plan : Plan) (input : Level) (g : Tiling) (b : Schedule) (planes : List Tiled) (order : List ℕ) (step tile : ℕ) → IsBoarded plan g b → number_of (underway plan input g b.started b.finished planes order).progress step tile ≡ task_number b.grid step tile
number_is plan input g b planes order step tile boarded =
    ap (λ (m : ℕ). step * m + tile) (length-tiles_of g) ∙ ap (λ (t : Tiling). step * tile_count t + tile) (sym boarded.grid)

pub tiles_is : (plan : Plan) (g : Tiling) (b : Schedule) (tile : ℕ) → IsBoarded plan g b → tile < tile_count b.grid → tile < tile_count g
tiles_is plan g b tile boarded lt = subst (λ (t : Tiling). tile < tile_count t) boarded.grid lt

pub tiles_back : (plan : Plan) (g : Tiling) (b : Schedule) (tile : ℕ) → IsBoarded plan g b → tile < tile_count g → tile < tile_count b.grid
tiles_back plan g b tile boarded lt = subst (λ (t : Tiling). tile < tile_count t) (sym boarded.grid) lt

-- a task of the board that is running
pub runs_is : (plan : Plan) (input : Level) (g : Tiling) (b : Schedule) (planes : List Tiled) (order : List ℕ) (step tile : ℕ) → IsBoarded plan g b → IsTied b → step < length plan → tile < tile_count g
    → tasks.is_running (underway plan input g b.started b.finished planes order).progress (number_of (underway plan input g b.started b.finished planes order).progress step tile) ≡ true → RunsOn b step tile
runs_is plan input g b planes order step tile boarded tied within inside running =
    let p = (underway plan input g b.started b.finished planes order).progress in
    record {
      within = subst (λ (n : ℕ). step < n) boarded.steps within;
      inside = tiles_back plan g b tile boarded inside;
      running = sym ((same_work plan input g b planes order boarded tied).running (task_number b.grid step tile)) ∙ ap (tasks.is_running p) (sym (number_is plan input g b planes order step tile boarded)) ∙ running;
    }

pub is_run : (plan : Plan) (input : Level) (g : Tiling) (b : Schedule) (planes : List Tiled) (order : List ℕ) (step tile : ℕ) → IsBoarded plan g b → IsTied b → RunsOn b step tile
    → (step < length plan) × (tile < tile_count g) × (tasks.is_running (underway plan input g b.started b.finished planes order).progress (number_of (underway plan input g b.started b.finished planes order).progress step tile) ≡ true)
is_run plan input g b planes order step tile boarded tied runs =
    let p = (underway plan input g b.started b.finished planes order).progress in (
      subst (λ (n : ℕ). step < n) (sym boarded.steps) runs.within,
      tiles_is plan g b tile boarded runs.inside,
      ap (tasks.is_running p) (number_is plan input g b planes order step tile boarded) ∙ (same_work plan input g b planes order boarded tied).running (task_number b.grid step tile) ∙ runs.running,
    )

-- a place in the order of ready tasks
pub place_is : (plan : Plan) (input : Level) (g : Tiling) (b : Schedule) (planes : List Tiled) (order : List ℕ) (place : ℕ) → IsBoarded plan g b → IsTied b → place < tasks.ready_tasks (underway plan input g b.started b.finished planes order).progress → place < ready_tasks_on b
place_is plan input g b planes order place boarded tied lt = subst (λ (n : ℕ). place < n) (same_work plan input g b planes order boarded tied).ready_tasks lt

pub number_lt : (b : Schedule) (step tile : ℕ) → step < length b.needs → tile < tile_count b.grid → task_number b.grid step tile < task_count_on b
number_lt b step tile within inside = number_of_cell (length b.needs) (tile_count b.grid) tile step inside within

pub ready_is : (plan : Plan) (input : Level) (g : Tiling) (b : Schedule) (planes : List Tiled) (order : List ℕ) (step tile : ℕ) → IsBoarded plan g b → IsTied b → step < length b.needs → tile < tile_count b.grid → is_ready_on b (task_number b.grid step tile) ≡ true
    → tasks.is_ready (underway plan input g b.started b.finished planes order).progress (number_of (underway plan input g b.started b.finished planes order).progress step tile) ≡ true
ready_is plan input g b planes order step tile boarded tied within inside ready =
    let p = (underway plan input g b.started b.finished planes order).progress in
    ap (tasks.is_ready p) (number_is plan input g b planes order step tile boarded)
    ∙ (same_work plan input g b planes order boarded tied).ready (task_number b.grid step tile) (number_lt b step tile within inside)
    ∙ ready
