use Rattle.std.proofs.Common.{take}
use Rattle.std.specs.List.{AllByRecursion}
use Rattle.mw_model.specs.Rasters.{Raster}
use Rattle.mw_tile_pieces.specs.Patches.{frame_value, ShowsIn}
use Rattle.mw_tile_slots.specs.Tiles.{ShowsTiles, cells_of}
use Rattle.mw_tile_slots.proofs.equal.are_tiles.Given as goal

abbrev pub invariant-loop-piece : goal.invariant-loop-piece
invariant-loop-piece g l = (f : Raster _) → ShowsTiles l.grid (cells_of l.tiles) f → AllByRecursion (ShowsIn l.place (frame_value f)) (take l.piece-index l.pieces)
