use Rattle.mw_tile_pieces.specs.Patches.{cell_of, patch}
use Rattle.mw_tile_pieces.proofs.Patches.{ShowsAbove}
use Rattle.mw_tile_pieces.proofs.piece.Piece.agrees.Given as goal

abbrev pub invariant-loop-y : goal.invariant-loop-y
invariant-loop-y g l = ShowsAbove l.here (cell_of (patch l.at l.plane.cells)) l.self l.y
