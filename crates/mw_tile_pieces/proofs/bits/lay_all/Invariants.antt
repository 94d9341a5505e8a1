use Rattle.std.proofs.Common.{take}
use Rattle.mw_tile.specs.mw_pixel_words.Packed.{samples_of, IsPacked}
use Rattle.mw_tile_pieces.proofs.Laid.{AreShown}
use Rattle.mw_tile_pieces.proofs.bits.lay_all.Given as goal

abbrev pub invariant-loop-piece : goal.invariant-loop-piece
invariant-loop-piece l = record {
  packed : IsPacked l.pieces.place.width l.pieces.place.height l.out;
  shown : AreShown l.pieces.place (samples_of l.pieces.place.width l.pieces.place.height l.out) (take l.piece-index l.pieces.pieces);
}
