use Rattle.std.proofs.Common.{take}
use Rattle.std.specs.List.{AllByRecursion}
use Rattle.mw_tile_pieces.specs.Patches.{ShowsIn}
use Rattle.mw_tile_pieces.proofs.Patches.{at_frame}
use Rattle.mw_tile_pieces.proofs.pieces.Pieces.are_of.Given as goal

abbrev pub invariant-loop-piece : goal.invariant-loop-piece
invariant-loop-piece g l = AllByRecursion (ShowsIn l.place (at_frame l.at l.plane)) (take l.piece-index l.pieces)
