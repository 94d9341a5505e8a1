use Rattle.std.proofs.Common.{◌≡◌, ℕ, true, sym, subst}
use Rattle.std.proofs.lemmas.Result.{IfOk-weaker}
use Rattle.mw_model.specs.Rasters.{Raster, raster, cell_at}
use Rattle.mw_model.specs.Windows.{seen_at}
use Rattle.mw_rank_medians.specs.mw_rank.Ranks.{IsRank}
use Rattle.mw_rank_medians.specs.mw_tile.Windows.{IsWindow}
use Rattle.mw_rank_medians.proofs.mw_rank.Rows.{on_frame}
use Rattle.mw_rank_lent.specs.Middles.{FitsMedians, HasTile}
use Rattle.mw_rank_lent.proofs.Middle.{medians_rank}
use Rattle.mw_rank_lent.proofs.Offsets.{reach_known}
use Rattle.mw_rank_lent.proofs.medians.medians_into.Goals as goal

pub returns-in-Some-clause-over_window : goal.returns-in-Some-clause-over_window
returns-in-Some-clause-over_window g c =
    let level = g.P.Pixel.level in
    let w = c.args.lent.now in
    let tile = c.args.tile in
    let s = c.in-Some.square in
    let out = c.put_square.new.out in
    let square = c.in-Some.ensures.some in
    IfOk-weaker c.put_square.result (λ done. done ≡ true → HasTile level w s tile out) (λ done. done ≡ true → IsRank level c.args.k (seen_at w) c.args.offsets.now tile (raster tile.width tile.height out))
    (λ done made is. medians_rank level w s c.args.k c.args.offsets.now tile out (made is) square.1 square.2) c.put_square.ensures.made

pub returns-in-Some-clause-over_frame : goal.returns-in-Some-clause-over_frame
returns-in-Some-clause-over_frame g c =
    let level = g.P.Pixel.level in
    let w = c.args.lent.now in
    let tile = c.args.tile in
    let s = c.in-Some.square in
    let out = c.put_square.new.out in
    let square = c.in-Some.ensures.some in
    IfOk-weaker c.put_square.result (λ done. done ≡ true → HasTile level w s tile out)
    (λ done. done ≡ true → (f : Raster _) → IsWindow w f c.args.offsets.now tile → IsRank level c.args.k (cell_at f) c.args.offsets.now tile (raster tile.width tile.height out))
    (λ done made is f window. on_frame level c.args.k w f c.args.offsets.now tile (raster tile.width tile.height out) (medians_rank level w s c.args.k c.args.offsets.now tile out (made is) square.1 square.2) window) c.put_square.ensures.made

pub returns-in-Some-clause-taken : goal.returns-in-Some-clause-taken
returns-in-Some-clause-taken g c = λ reach known fits.
    let square = c.in-Some.ensures.some in
    let same : c.in-Some.square.reach ≡ reach = reach_known c.in-Some.square reach c.args.k square.0 square.2 known.median in
    c.put_square.ensures.taken (subst (λ (r : ℕ). FitsMedians g.P.Vectored.WIDTH r c.args.lent.now.place c.args.tile) (sym same) fits)

pub returns-in-None-clause-taken : goal.returns-in-None-clause-taken
returns-in-None-clause-taken g c = λ reach known fits. absurd (c.in-None.ensures.none reach known)
