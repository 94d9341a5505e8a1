-- The image that a plane shows: it is 0 where no tile is placed.
use Rattle.std.specs.Prelude.{ℕ, ◌+◌, ◌-◌, ◌*◌, List, Option, Some, None, slice_index_or}
use Rattle.mw_model.specs.Pictures.{Picture, drawn}
use Rattle.mw_grid.specs.Grids.{Tiling, tile_at}
pub use Rattle.mw_tile_slots.specs.Tiles.{tile_number_at}
use Rattle.mw_tile_planes.specs.Tiles.{Tiled, tile_cells}

-- a cell of a tile, or 0 where there is none
abbrev pub cell_or : Option (List ℕ) → ℕ → ℕ
cell_or None k = 0
cell_or (Some cells) k = slice_index_or cells k 0

-- what tile n has at a place of the frame
abbrev pub cell_in : Tiling → List (Option (List ℕ)) → ℕ → ℕ → ℕ → ℕ
cell_in g tiles n x y = cell_or (tile_cells tiles n) ((y - (tile_at g n).y) * (tile_at g n).width + (x - (tile_at g n).x))

abbrev pub filled_value : Tiling → List (Option (List ℕ)) → ℕ → ℕ → ℕ
filled_value g tiles x y = cell_in g tiles (tile_number_at g x y) x y

-- the image that is filled up
abbrev pub filled : Tiled → Picture
filled p = drawn p.kind p.tiling.width p.tiling.height p.maxval (filled_value p.tiling p.tiles)
