-- Blocks of tiles (own).
use Rattle.std.specs.Prelude.{ℕ, ◌/◌, ◌%◌, ◌≤◌, Bool, ◌&&◌}
use Rattle.mw_model.specs.declared.offsets.Reach.{Reach}
use Rattle.mw_model.specs.Rectangles.{grown}
use Rattle.mw_model.specs.Tasks.{meets}
use Rattle.mw_grid.specs.declared.blocks.Block.{Block}
use Rattle.mw_grid.specs.Counts.{in_range}
use Rattle.mw_grid.specs.Grids.{Tiling, columns_of, rows_of, tile_at}

-- the block is one of the grid: its columns and rows are the grid's
pub record IsBlock (g : Tiling) (b : Block) : Type 0 where
  pub across : b.left ≤ b.right
  pub right : b.right ≤ columns_of g
  pub down : b.top ≤ b.bottom
  pub bottom : b.bottom ≤ rows_of g

-- the tile of this number lies in the block
abbrev pub in_block : Tiling → Block → ℕ → Bool
in_block g b v = in_range b.top b.bottom (v / columns_of g) && in_range b.left b.right (v % columns_of g)

-- the window of this tile, as wide as the reach, has a place of tile v
abbrev pub sees : Tiling → Reach → ℕ → ℕ → Bool
sees g reach tile v = meets (grown g.width g.height reach (tile_at g tile)) (tile_at g v)
