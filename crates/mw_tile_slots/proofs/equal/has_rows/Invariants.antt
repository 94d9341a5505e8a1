use Rattle.mw_model.specs.Rasters.{Raster}
use Rattle.mw_tile_pieces.specs.Patches.{frame_value}
use Rattle.mw_tile_pieces.proofs.Patches.{ShowsAbove}
use Rattle.mw_tile_slots.specs.Tiles.{ShowsTiles, cells_of}
use Rattle.mw_tile_slots.proofs.equal.has_rows.Given as goal

abbrev pub invariant-loop-y : goal.invariant-loop-y
invariant-loop-y g l = (f : Raster _) → ShowsTiles l.grid (cells_of l.tiles) f → ShowsAbove l.here (frame_value f) l.piece l.y
