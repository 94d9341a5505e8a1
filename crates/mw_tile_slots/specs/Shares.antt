-- Tiles that are shared as the pieces of a window (own).
use Rattle.std.specs.Prelude.{◌≡◌, ℕ, ◌<◌, ◌≤◌, true, List, Option, Some, IsSome}
use Rattle.std.specs.List.{AllByRecursion}
use Rattle.mw_model.specs.declared.offsets.Rect.{Rect}
use Rattle.mw_model.specs.Rectangles.{Holds}
use Rattle.mw_grid.specs.Grids.{Tiling, tile_at, tile_count}
use Rattle.mw_tile_pieces.specs.Patches.{Patch, held_in}
use Rattle.mw_tile_slots.specs.Tiles.{tile_cells}

-- the piece is a tile that is placed
pub record IsTileOf {A : Type 0} (g : Tiling) (tiles : List (Option (List A))) (p : Patch A) : Type 0 where
  pub number : ℕ
  pub within : number < tile_count g
  pub place : p.place ≡ tile_at g number
  pub cells : tile_cells tiles number ≡ Some p.cells

-- the new pieces are the old and placed tiles, among them each that is placed of these numbers
pub record AddsTiles {A : Type 0} (g : Tiling) (tiles : List (Option (List A))) (first end : ℕ) (old new : List (Patch A)) : Type 0 where
  pub all : AllByRecursion (IsTileOf g tiles) old → AllByRecursion (IsTileOf g tiles) new
  pub kept : (x y : ℕ) → held_in old x y ≡ true → held_in new x y ≡ true
  pub added : (i x y : ℕ) → first ≤ i → i < end → Holds (tile_at g i) x y → IsSome (tile_cells tiles i) → held_in new x y ≡ true

-- the pieces are placed tiles, among them each that is placed and has a place of the rectangle
pub record AreTilesMet {A : Type 0} (g : Tiling) (tiles : List (Option (List A))) (r : Rect) (ps : List (Patch A)) : Type 0 where
  pub all : AllByRecursion (IsTileOf g tiles) ps
  pub met : (i x y : ℕ) → i < tile_count g → Holds r x y → Holds (tile_at g i) x y → IsSome (tile_cells tiles i) → held_in ps x y ≡ true
