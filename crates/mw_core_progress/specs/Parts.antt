-- The work under a ticket, made of what is kept of it: the plan, the board of its tasks, and the places of its planes; no public contract speaks of it.
use Rattle.std.specs.Prelude.{ℕ, ◌≡◌, ◌+◌, ◌*◌, ◌<◌, ◌≤◌, Bool, true, List, length, slice_index_or}
use Rattle.mw_model.specs.Plans.{Plan, is_sum}
use Rattle.mw_model.specs.Tasks.{flag, nothing_planned}
use Rattle.mw_grid.specs.Grids.{Tiling, tile_count, tiles_of}
use Rattle.mw_core_planes.specs.mw_ready.Boards.{Schedule, Turns, no_need}
use Rattle.mw_core_planes.specs.mw_ready.Work.{IsNeedOf}
use Rattle.mw_core_planes.specs.mw_tile_planes.Tiles.{Tiled}
use Rattle.mw_core_planes.specs.Levels.{Level}
use Rattle.mw_core_planes.specs.StepPlanes.{form, IsFormOf, place_at, planes_shown}
use Rattle.mw_core_planes.specs.declared.step_planes.StepPlane.{StepPlane}
use Rattle.mw_core_progress.specs.ProgressView.{ProgressView, cells_of_planes}

-- the work of these parts
abbrev pub underway : Plan → Level → Tiling → List Bool → List Bool → List Tiled → List ℕ → ProgressView
underway plan input g started finished planes order = record {
  progress = record {
    width = g.width;
    height = g.height;
    plan = plan;
    tiles = tiles_of g;
    started = started;
    finished = finished;
    placed = cells_of_planes planes;
  };
  input = input;
  tiling = g;
  planes = planes;
  order = order;
}

-- work that is under way, told by its tasks in turn and by the places of its planes
abbrev pub underway_kept : Plan → Level → Tiling → Turns → List StepPlane → ProgressView
underway_kept plan input g turns places =
    underway plan input g turns.board.started turns.board.finished (planes_shown g places) turns.order

-- the board has the needs of the plan and the grid
pub record IsBoarded (plan : Plan) (g : Tiling) (b : Schedule) : Type 0 where
  pub grid : b.grid ≡ g
  pub steps : length plan ≡ length b.needs
  pub needs : (k : ℕ) → k < length b.needs → IsNeedOf (slice_index_or b.needs k no_need) (slice_index_or plan k nothing_planned)

-- each place is one for its step, and opened where a task of the step was started
pub record IsPlaced (plan : Plan) (g : Tiling) (started : List Bool) (places : List StepPlane) : Type 0 where
  pub forms : (k : ℕ) → k < length plan → IsFormOf (is_sum (slice_index_or plan k nothing_planned).step) (form (place_at places k))
  pub opened : (k tile : ℕ) → k < length plan → tile < tile_count g → flag started (k * tile_count g + tile) ≡ true → 1 ≤ form (place_at places k)
