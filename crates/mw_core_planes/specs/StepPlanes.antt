-- What is kept of the plane of each step (own).
use Rattle.std.specs.Prelude.{ℕ, ◌≡◌, ◌≢◌, ◌<◌, Bool, true, false, not, ◌&&◌, cond, List, length, map, Some, None, slice_index_or, slice_set}
use Rattle.std.specs.List.{list_any}
use Rattle.mw_model.specs.Tasks.{flag}
use Rattle.mw_grid.specs.Grids.{Tiling}
use Rattle.mw_ready.specs.Boards.{Schedule}
use Rattle.mw_ready.specs.Boards as boards
use Rattle.mw_plan.specs.mw_step_task.declared.tile_result.TileResult.{TileResult}
use Rattle.mw_tile_planes.specs.Tiles.{Tiled, tile_cells}
use Rattle.mw_core_planes.specs.Levels.{no_level, closed_plane}
use Rattle.mw_core_planes.specs.MadeTiles.{IsTileFor, IsSmallNumber}
use Rattle.mw_core_planes.specs.declared.step_planes.StepPlane.{StepPlane}
use Rattle.mw_core_planes.specs.declared.step_planes.StepPlane.TheVariants.{Closed, Plane, Sums}

-- ---- one place

-- the plane that it shows, on a frame with these tiles
abbrev pub shown : Tiling → StepPlane → Tiled
shown g (Closed l) = closed_plane g l
shown g (Plane p) = p
shown g (Sums p) = p

-- 0 where nothing was opened, 1 for a plane, 2 for numbers
abbrev pub form : StepPlane → ℕ
form (Closed l) = 0
form (Plane p) = 1
form (Sums p) = 2

-- a step that sums up has numbers and no plane, and each other has a plane and no numbers
abbrev pub IsFormOf : Bool → ℕ → Type 0
IsFormOf true n = n ≢ 1
IsFormOf false n = n ≢ 2

-- the plane with one tile more
abbrev pub placed_in : Tiled → ℕ → List ℕ → Tiled
placed_in p i cells = record p { tiles = slice_set p.tiles i (Some cells) }

-- what was made can be placed there
abbrev pub Suits : Tiling → StepPlane → ℕ → TileResult → Type 0
Suits g (Closed l) i m = ⊥
Suits g (Plane p) i m = IsTileFor p i m
Suits g (Sums p) i m = IsSmallNumber m

-- the tiles of these numbers are dropped, and the others are as they were
pub record Swept (gone : ℕ → Bool) (old new : Tiled) : Type 0 where
  pub kind : new.kind ≡ old.kind
  pub maxval : new.maxval ≡ old.maxval
  pub tiling : new.tiling ≡ old.tiling
  pub count : length new.tiles ≡ length old.tiles
  pub each : (v : ℕ) → v < length old.tiles → tile_cells new.tiles v ≡ cond (gone v) None (tile_cells old.tiles v)

-- ---- the places of all steps

-- what stands behind the last place
abbrev pub no_place : StepPlane
no_place = Closed no_level

abbrev pub place_at : List StepPlane → ℕ → StepPlane
place_at places k = slice_index_or places k no_place

-- the planes that they show
abbrev pub planes_shown : Tiling → List StepPlane → List Tiled
planes_shown g places = map (shown g) places

-- each step's tiles of these numbers are dropped, and all else is as it was
pub record SweptAll (g : Tiling) (gone : ℕ → ℕ → Bool) (old new : List StepPlane) : Type 0 where
  pub count : length new ≡ length old
  pub forms : (k : ℕ) → form (place_at new k) ≡ form (place_at old k)
  pub each : (k : ℕ) → k < length old → Swept (gone k) (shown g (place_at old k)) (shown g (place_at new k))

-- an unfinished task reads this tile of this step
abbrev pub is_read : Schedule → ℕ → ℕ → Bool
is_read b step tile = list_any (λ u. not (flag b.finished u) && boards.reads_by_needs b.needs b.grid u (boards.task_number b.grid step tile)) (boards.tasks_on b)
