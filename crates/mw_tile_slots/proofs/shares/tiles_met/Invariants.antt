use Rattle.mw_tile_slots.specs.Tiles.{cells_of}
use Rattle.mw_tile_slots.proofs.Sharing.{HasRowsMet}
use Rattle.mw_tile_slots.proofs.shares.tiles_met.Given as goal

abbrev pub invariant-loop-row : goal.invariant-loop-row
invariant-loop-row g l = HasRowsMet l.grid (cells_of l.tiles) l.left l.right l.top l.row l.pieces.items
