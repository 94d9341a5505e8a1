use Rattle.std.proofs.Common.{◌*◌, cond, replicate, take}
use Rattle.mw_tile_pieces.proofs.Laid.{AreShown}
use Rattle.mw_tile_pieces.proofs.uniform.is_only.Given as goal

abbrev pub invariant-loop-piece : goal.invariant-loop-piece
invariant-loop-piece l = AreShown l.pieces.place (replicate (l.pieces.place.height * l.pieces.place.width) (cond l.is_set 1 0)) (take l.piece-index l.pieces.pieces)
