-- The work under a ticket: its tasks, and the tiles that are kept of each step (own).
use Rattle.std.specs.Prelude.{ℕ, ◌≡◌, ◌+◌, ◌*◌, ◌<◌, ◌≤◌, ◌⊎◌, ◌↔◌, Bool, true, false, not, ◌||◌, List, [], ◌∷◌, length, map, flat_map, replicate, slice_index_or, slice_set, Option, Some, None, IsSome}
use Rattle.std.specs.List.{AllByRecursion, list_all}
use Rattle.mw_model.specs.declared.shapes.Kind.TheVariants as kind
use Rattle.mw_model.specs.declared.limits.TheConstants.{SIDE_LIMIT, STEP_LIMIT, TILE_SIDE_LIMIT, TILE_SIDE_UNIT}
use Rattle.mw_model.specs.Plans.{Plan, IsSourceAt, is_sum, with_number}
use Rattle.mw_model.specs.Tasks.{Progress, flag, task_count, tasks_below, nothing_planned, reads, is_needed, remaining_tasks}
use Rattle.mw_grid.specs.Grids.{Tiling, tile_count, tiles_of}
use Rattle.mw_core_planes.specs.mw_step_task.declared.tile_result.TileResult.{TileResult}
use Rattle.mw_core_planes.specs.mw_tile_planes.Tiles.{Tiled, nothing_placed}
use Rattle.mw_core_planes.specs.mw_tile_planes.Sums.{number_in}
use Rattle.mw_core_planes.specs.Levels.{Level, IsLevel, level_of_plane, levels}
use Rattle.mw_core_planes.specs.MadeTiles.{IsTileFor, IsSmallNumber}
pub use Rattle.mw_core_planes.specs.mw_plan.PlansOf.{IsPlaneSource}

-- What is known of the work under a ticket: its tasks, the level of the image that it reads, the frame with its tiles, what is kept of the plane of each step (of a Sum step the number of each tile, as its only cell), and the order in which ready tasks are handed out.
pub record ProgressView : Type 0 where
  pub progress : Progress
  pub input : Level
  pub tiling : Tiling
  pub planes : List Tiled
  pub order : List ℕ

-- ---- plans that can be worked off

-- The plan has from 1 to STEP_LIMIT steps; each source is the only image or an earlier step that makes a plane; and each step has a level.
pub record IsWorkable (plan : Plan) (input : Level) : Type 0 where
  pub some : 1 ≤ length plan
  pub few : length plan ≤ STEP_LIMIT
  pub sources : (k : ℕ) → AllByRecursion (IsSourceAt 1 k) (slice_index_or plan k nothing_planned).sources
  pub planes : (k : ℕ) → AllByRecursion (IsPlaneSource plan) (slice_index_or plan k nothing_planned).sources
  pub levels : AllByRecursion IsLevel (levels plan input)

-- ---- tasks and planes

-- the number of the task of this step and tile
abbrev pub number_of : Progress → ℕ → ℕ → ℕ
number_of p step tile = step * length p.tiles + tile

-- what stands behind the last plane
abbrev pub no_plane : Tiling → Tiled
no_plane g = nothing_placed kind.Bit 0 g

-- what is kept of the plane of a step
abbrev pub plane_at : ProgressView → ℕ → Tiled
plane_at u k = slice_index_or u.planes k (no_plane u.tiling)

-- what is kept of the planes, task by task
abbrev pub cells_of_planes : List Tiled → List (Option (List ℕ))
cells_of_planes planes = flat_map (λ (p : Tiled). p.tiles) planes

-- what a finished task made is kept exactly while it is needed
abbrev pub KeepsNeeded : Progress → Type 0
KeepsNeeded p = (n : ℕ) → n < task_count p → IsSome (slice_index_or p.placed n None) ↔ ((flag p.finished n ≡ true) × (is_needed p n ≡ true))

-- all that a task reads is finished
abbrev pub has_all_read : Progress → ℕ → Bool
has_all_read p n = list_all (λ u. not (reads p n u) || flag p.finished u) (tasks_below p)

-- a frame with the sides of an image, in tiles of a side within its limits
pub record IsFramed (g : Tiling) : Type 0 where
  pub wide : 1 ≤ g.width
  pub narrow : g.width ≤ SIDE_LIMIT
  pub high : 1 ≤ g.height
  pub low : g.height ≤ SIDE_LIMIT
  pub least : TILE_SIDE_UNIT ≤ g.side
  pub most : g.side ≤ TILE_SIDE_LIMIT

-- The parts agree: the plan can be worked off, the planes are those of its steps on the tiles of the frame, what started tasks read is finished, and what is needed is kept.
pub record IsWhole (u : ProgressView) : Type 0 where
  pub workable : IsWorkable u.progress.plan u.input
  pub tiling : IsFramed u.tiling
  pub width : u.progress.width ≡ u.tiling.width
  pub height : u.progress.height ≡ u.tiling.height
  pub tiles : u.progress.tiles ≡ tiles_of u.tiling
  pub started : length u.progress.started ≡ task_count u.progress
  pub finished : length u.progress.finished ≡ task_count u.progress
  pub begun : (n : ℕ) → flag u.progress.finished n ≡ true → flag u.progress.started n ≡ true
  pub calm : (n : ℕ) → n < task_count u.progress → flag u.progress.started n ≡ true → has_all_read u.progress n ≡ true
  pub planes : length u.planes ≡ length u.progress.plan
  pub levels : map level_of_plane u.planes ≡ levels u.progress.plan u.input
  pub tilings : (k : ℕ) → (plane_at u k).tiling ≡ u.tiling
  pub counts : (k : ℕ) → length (plane_at u k).tiles ≡ tile_count u.tiling
  pub placed : u.progress.placed ≡ cells_of_planes u.planes
  pub needed : KeepsNeeded u.progress

-- nothing of this plan was started
abbrev pub fresh : Plan → Level → Tiling → Progress
fresh plan input g = record {
  width = g.width;
  height = g.height;
  plan = plan;
  tiles = tiles_of g;
  started = replicate (length plan * tile_count g) false;
  finished = replicate (length plan * tile_count g) false;
  placed = replicate (length plan * tile_count g) None;
}

-- ---- what tasks make

-- what was made fits the step and the tile
pub record ResultFits (u : ProgressView) (step tile : ℕ) (m : TileResult) : Type 0 where
  pub within : step < length u.progress.plan
  pub inside : tile < tile_count u.tiling
  pub number : is_sum (slice_index_or u.progress.plan step nothing_planned).step ≡ true → IsSmallNumber m
  pub image : is_sum (slice_index_or u.progress.plan step nothing_planned).step ≡ false → IsTileFor (plane_at u step) tile m

-- ---- events

-- The task of this number is started, and nothing else changes but the order of ready tasks.
pub record IsStarted (old new : ProgressView) (n : ℕ) : Type 0 where
  pub progress : new.progress ≡ record old.progress { started = slice_set old.progress.started n true }
  pub input : new.input ≡ old.input
  pub tiling : new.tiling ≡ old.tiling
  pub planes : new.planes ≡ old.planes

-- The task of this number is finished. It made these cells, and nothing else is kept that was not kept before.
pub record IsFinished (old new : ProgressView) (n : ℕ) (cells : List ℕ) : Type 0 where
  pub finished : new.progress.finished ≡ slice_set old.progress.finished n true
  pub started : new.progress.started ≡ old.progress.started
  pub plan : new.progress.plan ≡ old.progress.plan
  pub tiles : new.progress.tiles ≡ old.progress.tiles
  pub width : new.progress.width ≡ old.progress.width
  pub height : new.progress.height ≡ old.progress.height
  pub input : new.input ≡ old.input
  pub tiling : new.tiling ≡ old.tiling
  pub lowered : remaining_tasks new.progress + 1 ≡ remaining_tasks old.progress
  pub placed : (k : ℕ) (found : List ℕ) → slice_index_or new.progress.placed k None ≡ Some found → ((k ≡ n) × (found ≡ cells)) ⊎ (slice_index_or old.progress.placed k None ≡ Some found)

-- ---- results

-- the numbers of the Sum steps, in order
abbrev pub numbers_of : Plan → List Tiled → List ℕ
numbers_of [] planes = []
numbers_of (s ∷ ss) [] = []
numbers_of (s ∷ ss) (p ∷ planes) = with_number (is_sum s.step) (number_in p) (numbers_of ss planes)
