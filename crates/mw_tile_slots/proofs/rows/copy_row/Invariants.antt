use Rattle.std.proofs.Common.{◌*◌, min}
use Rattle.mw_tile_slots.specs.Rows.{HasFirstOfRow}
use Rattle.mw_tile_slots.specs.Tiles.{cells_of}
use Rattle.mw_tile_slots.proofs.rows.copy_row.Given as goal

abbrev pub invariant-loop-column : goal.invariant-loop-column
invariant-loop-column g l = HasFirstOfRow l.grid (cells_of l.tiles) l.y (min l.grid.width (l.column * l.grid.side)) l.out
