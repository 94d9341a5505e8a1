use Rattle.std.proofs.Common.{take}
use Rattle.mw_tile_pieces.proofs.Laid.{AreShown}
use Rattle.mw_tile_pieces.proofs.levels.lay_all.Given as goal

abbrev pub invariant-loop-piece : goal.invariant-loop-piece
invariant-loop-piece g l = AreShown l.pieces.place l.out (take l.piece-index l.pieces.pieces)
