use Rattle.mw_tile_slots.specs.Shares.{AddsTiles}
use Rattle.mw_tile_slots.specs.Tiles.{cells_of}
use Rattle.mw_tile_slots.proofs.shares.push_tiles.Given as goal

abbrev pub invariant-loop-i : goal.invariant-loop-i
invariant-loop-i g l = AddsTiles l.grid (cells_of l.tiles) l.first l.i l.initial.pieces.items l.pieces.items
