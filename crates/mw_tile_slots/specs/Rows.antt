-- Whole planes that are read row by row (own).
use Rattle.std.specs.Prelude.{◌≡◌, ℕ, ◌*◌, ◌<◌, List, length, Option, IsSome}
use Rattle.mw_model.specs.Rasters.{Raster}
use Rattle.mw_grid.specs.Grids.{Tiling, tile_count}
use Rattle.mw_tile_pieces.specs.Patches.{frame_value}
use Rattle.mw_tile_slots.specs.Tiles.{ShowsTiles, tile_cells}
use Rattle.mw_tile_pieces.specs.mw_pixel_words.Runs.{HasFront}

-- A frame that is cut into tiles, with the cells of each that is placed.
pub record TileCells (A : Type 0) : Type 0 where
  pub tiling : Tiling
  pub tiles : List (Option (List A))

-- every tile is placed
abbrev pub EachPlaced : {A : Type 0} → Tiling → List (Option (List A)) → Type 0
EachPlaced g tiles = (i : ℕ) → i < tile_count g → IsSome (tile_cells tiles i)

-- the tiles are what this whole frame has there
pub record AreCutFrom {A : Type 0} (f : Raster A) (t : TileCells A) : Type 0 where
  pub size : length f.cells ≡ f.height * f.width
  pub shows : ShowsTiles t.tiling t.tiles f

-- a plane of one row, as wide as the frame, whose first n cells each whole frame with these tiles has in row y
pub record HasFirstOfRow {A : Type 0} (g : Tiling) (tiles : List (Option (List A))) (y n : ℕ) (p : Raster A) : Type 0 where
  pub width : p.width ≡ g.width
  pub height : p.height ≡ 1
  pub size : length p.cells ≡ g.width
  pub shows : (f : Raster A) → ShowsTiles g tiles f → HasFront (λ k. frame_value f k y) n g.width p.cells
