use Rattle.std.proofs.Common.{arith, ap, length, List, ◌≤◌}
use Rattle.mw_tile.specs.mw_pixel_words.Packed.{samples_of}
use Rattle.mw_tile.proofs.mw_pixel_words.Bits.{length-samples_of}
use Rattle.mw_tile_pieces.specs.Patches.{Patch}
use Rattle.mw_tile_pieces.proofs.Laid.{bits_more, laid_done, packed_as}
use Rattle.mw_tile_pieces.proofs.bits.lay_all.Goals as goal

pub loop-piece-preserved : goal.loop-piece-preserved
loop-piece-preserved c = record {
  packed = packed_as c.place-place.result c.args.pieces.now.place c.lay.new.out c.place-place.ensures c.lay.ensures.packed;
  shown = bits_more c.args.pieces.now c.place-place.result c.pieces-piece-items.result.now c.loop-piece.piece-index c.piece-item.result c.loop-piece.out c.lay.new.out c.pieces-piece-items.ensures.joint c.place-place.ensures c.pieces-piece-items.ensures.value
      c.loop-piece-test.true c.piece-item.is c.lay.ensures.laid c.loop-piece.invariant.shown;
}

pub returns-clause-values : goal.returns-clause-values
returns-clause-values c =
    let r = c.args.pieces.now.place in
    let past : length c.args.pieces.now.pieces ≤ c.loop-piece.piece-index = let items = ap (λ (t : List (Patch _)). length t) c.pieces-piece-items.ensures.value in omega arith in
    laid_done c.args.pieces.now c.loop-piece.piece-index (samples_of r.width r.height c.loop-piece.out) c.pieces-piece-items.ensures.joint (length-samples_of r.width r.height c.loop-piece.out) past c.loop-piece.invariant.shown
