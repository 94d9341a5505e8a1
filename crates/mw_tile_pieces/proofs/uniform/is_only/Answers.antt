use Rattle.std.proofs.Common.{◌≤◌, ◌*◌, List, length, replicate, cond, ap, arith}
use Rattle.std.proofs.lemmas.List.{length-replicate}
use Rattle.mw_tile_pieces.specs.Patches.{Patch}
use Rattle.mw_tile_pieces.proofs.Laid.{laid_done}
use Rattle.mw_tile_pieces.proofs.uniform.is_only.Goals as goal

pub returns : goal.returns
returns c = λ yes.
    let r = c.args.pieces.now.place in
    let past : length c.args.pieces.now.pieces ≤ c.loop-piece.piece-index = let items = ap (λ (t : List (Patch _)). length t) c.pieces-piece-items.ensures.value in omega arith in
    laid_done c.args.pieces.now c.loop-piece.piece-index (replicate (r.height * r.width) (cond c.args.is_set 1 0)) c.pieces-piece-items.ensures.joint (length-replicate (r.height * r.width) (cond c.args.is_set 1 0)) past c.loop-piece.invariant
