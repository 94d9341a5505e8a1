-- Planes that are made tile by tile: what is placed of one, and of which whole planes that is a part (own).
use Rattle.std.specs.Prelude.{◌≡◌, ℕ, ◌*◌, ◌<◌, ◌≤◌, All, List, length, replicate, Option, Some, None, IsSome}
use Rattle.mw_model.specs.declared.shapes.Kind.{Kind}
use Rattle.mw_model.specs.Pictures.{Picture}
use Rattle.mw_model.specs.PlanSteps.{PlanStep}
use Rattle.mw_model.specs.Tasks.{made_of_planes}
use Rattle.mw_grid.specs.Grids.{Tiling, tile_at, tile_count}
use Rattle.mw_step_task.specs.mw_pixel.Images.{raster_of}
use Rattle.mw_tile_slots.specs.Tiles.{HasSizes}
pub use Rattle.mw_tile_slots.specs.Tiles.{HasAll, ShowsTiles, tile_cells}

-- A plane on a frame that is cut into tiles: its kind and maxval, and the cells of each tile that is placed.
pub record Tiled : Type 0 where
  pub kind : Kind
  pub maxval : ℕ
  pub tiling : Tiling
  pub tiles : List (Option (List ℕ))

-- a plane of which no tile is placed
abbrev pub nothing_placed : Kind → ℕ → Tiling → Tiled
nothing_placed kind maxval g = record { kind = kind; maxval = maxval; tiling = g; tiles = replicate (tile_count g) None }

-- no cell that is placed is over this level
abbrev pub AreBounded : ℕ → List (Option (List ℕ)) → Type 0
AreBounded level tiles = (i : ℕ) (cells : List ℕ) → tile_cells tiles i ≡ Some cells → All (λ n. n ≤ level) cells

-- what is so of every plane that is made tile by tile: it has a frame and tiles, each that is placed fills its rectangle, and no sample is over the maxval
pub record TiledIsSound (p : Tiled) : Type 0 where
  pub wide : 1 ≤ p.tiling.width
  pub high : 1 ≤ p.tiling.height
  pub some : 1 ≤ p.tiling.side
  pub sizes : HasSizes p.tiling p.tiles
  pub bounded : AreBounded p.maxval p.tiles

-- every tile is placed
pub record AllPlaced (p : Tiled) : Type 0 where
  pub count : length p.tiles ≡ tile_count p.tiling
  pub each : (i : ℕ) → i < tile_count p.tiling → IsSome (tile_cells p.tiles i)

-- this image is one of those of which the plane is a part: it is of the plane's kind, maxval and frame, and has in each tile that is placed the cells that are placed
pub record IsPlaneOf (p : Tiled) (f : Picture) : Type 0 where
  pub size : length f.samples ≡ f.height * f.width
  pub kind : f.kind ≡ p.kind
  pub maxval : f.maxval ≡ p.maxval
  pub shows : ShowsTiles p.tiling p.tiles (raster_of f)

-- each tile that is placed is what the step makes there of the whole planes of its sources
abbrev pub AreMade : PlanStep → List Picture → Tiled → Type 0
AreMade s sources p = (i : ℕ) (cells : List ℕ) → i < tile_count p.tiling → tile_cells p.tiles i ≡ Some cells → cells ≡ made_of_planes s sources (tile_at p.tiling i)
