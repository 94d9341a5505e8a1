-- Tiles of a frame, some of which are missing, and of which whole frames they are parts (own).
use Rattle.std.specs.Prelude.{◌≡◌, ℕ, ◌+◌, ◌*◌, ◌/◌, ◌<◌, ◌≤◌, List, length, map, Option, Some, None, IsSome, option_map, slice_index_or}
use Rattle.mw_model.specs.declared.offsets.Rect.{Rect}
use Rattle.mw_model.specs.Rectangles.{Holds}
use Rattle.mw_model.specs.Rasters.{Raster}
use Rattle.mw_grid.specs.Grids.{Tiling, columns_of, tile_at, tile_count}
use Rattle.mw_tile_pieces.specs.mw_tile.Windows.{IsCut}
use Rattle.mw_tile_pieces.specs.mw_tile.Cuts.{view_of}
use Rattle.mw_tile_pieces.specs.Patches.{Patch, cell_of, frame_value}

-- the cells of a tile, where it is placed
abbrev pub tile_cells : {A : Type 0} → List (Option (List A)) → ℕ → Option (List A)
tile_cells tiles i = slice_index_or tiles i None

abbrev pub cells_in_raster : {A : Type 0} → Raster A → List A
cells_in_raster f = f.cells

-- of each tile its cells
abbrev pub cells_of : {A : Type 0} → List (Option (Raster A)) → List (Option (List A))
cells_of tiles = map (option_map cells_in_raster) tiles

-- the number of the tile that has a place
abbrev pub tile_number_at : Tiling → ℕ → ℕ → ℕ
tile_number_at g x y = y / g.side * columns_of g + x / g.side

-- the samples have the sides of the rectangle
pub record HasSidesOf {A : Type 0} (r : Rect) (f : Raster A) : Type 0 where
  pub width : f.width ≡ r.width
  pub height : f.height ≡ r.height
  pub size : length f.cells ≡ r.height * r.width

-- each tile of the grid has a place in the list, and each that is placed has its sides
pub record HasSides {A : Type 0} (g : Tiling) (tiles : List (Option (Raster A))) : Type 0 where
  pub count : length tiles ≡ tile_count g
  pub sides : (i : ℕ) (f : Raster A) → slice_index_or tiles i None ≡ Some f → HasSidesOf (tile_at g i) f

-- the cells of each tile that is placed fill its rectangle
abbrev pub HasSizes : {A : Type 0} → Tiling → List (Option (List A)) → Type 0
HasSizes g tiles = (i : ℕ) (cells : List _) → i < tile_count g → tile_cells tiles i ≡ Some cells → length cells ≡ (tile_at g i).height * (tile_at g i).width

-- the tiles that are placed are what this whole frame has there
pub record ShowsTiles {A : Type 0} (g : Tiling) (tiles : List (Option (List A))) (f : Raster A) : Type 0 where
  pub width : f.width ≡ g.width
  pub height : f.height ≡ g.height
  pub shown : (i : ℕ) (cells : List A) → i < tile_count g → tile_cells tiles i ≡ Some cells → IsCut (view_of f.width f.height (tile_at g i) cells) f

-- the tile that has this place of the frame is placed
abbrev pub HasAt : {A : Type 0} → Tiling → List (Option (List A)) → ℕ → ℕ → Type 0
HasAt g tiles x y = (i : ℕ) → i < tile_count g → Holds (tile_at g i) x y → IsSome (tile_cells tiles i)

-- each tile that meets the rectangle is placed
abbrev pub HasAll : {A : Type 0} → Tiling → List (Option (List A)) → Rect → Type 0
HasAll g tiles r = (x y : ℕ) → Holds r x y → HasAt g tiles x y

-- the tiles under a row are placed, from column x up to column `end`
abbrev pub HasAlong : {A : Type 0} → Tiling → List (Option (List A)) → ℕ → ℕ → ℕ → Type 0
HasAlong g tiles x y end = (k : ℕ) → x ≤ k → k < end → HasAt g tiles k y

-- in so many columns of a row from x on the piece has what the frame has
abbrev pub ShowsRun : {A : Type 0} → Raster A → Patch A → ℕ → ℕ → ℕ → Type 0
ShowsRun f p x y n = (k : ℕ) → k < n → cell_of p (x + k) y ≡ frame_value f (x + k) y
