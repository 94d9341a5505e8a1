use Rattle.std.proofs.Common.{arith, ap, length, List, ◌≤◌}
use Rattle.mw_tile_pieces.specs.Patches.{Patch}
use Rattle.mw_tile_pieces.proofs.Laid.{laid_done, laid_more}
use Rattle.mw_tile_pieces.proofs.levels.lay_all.Goals as goal

pub loop-piece-preserved : goal.loop-piece-preserved
loop-piece-preserved g c =
    laid_more c.args.pieces.now c.place-place.result c.pieces-piece-items.result.now c.loop-piece.piece-index c.piece-item.result c.loop-piece.out c.lay.new.out c.pieces-piece-items.ensures.joint c.place-place.ensures c.pieces-piece-items.ensures.value
    c.loop-piece-test.true c.piece-item.is c.lay.ensures c.loop-piece.invariant

pub returns : goal.returns
returns g c =
    let size = c.requires in
    let past : length c.args.pieces.now.pieces ≤ c.loop-piece.piece-index = let items = ap (λ (t : List (Patch _)). length t) c.pieces-piece-items.ensures.value in omega arith in
    laid_done c.args.pieces.now c.loop-piece.piece-index c.loop-piece.out c.pieces-piece-items.ensures.joint (omega arith) past c.loop-piece.invariant
