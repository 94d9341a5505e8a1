use Rattle.std.proofs.Common.{◌≡◌, ap, arith, ◌∙◌}
use Rattle.mw_model.specs.declared.offsets.Rect.{Rect}
use Rattle.mw_model.specs.Rasters.{Raster}
use Rattle.mw_tile_pieces.specs.Patches.{cell_of, overlap_of, patch}
use Rattle.mw_tile_pieces.proofs.Patches.{above_more, row_same, rows_of, run_in, RowsOf}
use Rattle.mw_tile_pieces.proofs.piece.Piece.agrees.Goals as goal

pub same_run-requires : goal.same_run-requires
same_run-requires g c =
    let p = c.args.self.now in
    let own = c.plane-own.result.now in
    let r = c.overlap-here.result in
    let r-is : r ≡ overlap_of c.args.place p.place = c.overlap-here.ensures ∙ ap (overlap_of c.args.place) c.place.ensures in
    let xs = ap (λ (q : Rect). q.x) r-is in
    let ys = ap (λ (q : Rect). q.y) r-is in
    let ws = ap (λ (q : Rect). q.width) r-is in
    let hs = ap (λ (q : Rect). q.height) r-is in
    let us = ap (λ (q : Rect). q.x) c.place-stands.ensures in
    let vs = ap (λ (q : Rect). q.y) c.place-stands.ensures in
    let wide = ap (λ (f : Raster _). f.width) c.plane-own.ensures.value in
    let high = ap (λ (f : Raster _). f.height) c.plane-own.ensures.value in
    let width = c.requires.width in
    let height = c.requires.height in
    let left = c.requires.inside.left in
    let right = c.requires.inside.right in
    let above = c.requires.inside.top in
    let below = c.requires.inside.bottom in
    let some = c.if-here-eq0.false in
    let top = c.loop-y.auto.y in
    let bottom = c.loop-y-test.true in
    record { across = omega arith; down = omega arith; across_other = omega arith; down_other = omega arith }

pub returns-then-not-same_run : goal.returns-then-not-same_run
returns-then-not-same_run g c =
    let p = c.args.self.now in
    let f = c.args.plane.now in
    let own = c.plane-own.result.now in
    let stands = c.place-stands.result in
    let r = c.overlap-here.result in
    let y = c.loop-y.y in
    let r-is : r ≡ overlap_of c.args.place p.place = c.overlap-here.ensures ∙ ap (overlap_of c.args.place) c.place.ensures in
    let some = c.if-here-eq0.false in
    let top = c.loop-y.auto.y in
    let bottom = c.loop-y-test.true in
    let rows : RowsOf r c.args.at p f y (run_in own.cells stands own.width r.x y r.width) (run_in f.cells c.args.at f.width r.x y r.width)
    = rows_of r c.args.place c.args.at stands p own f y r-is (omega arith) c.plane-own.ensures.value c.place-stands.ensures c.plane-own.ensures.full c.requires.width c.requires.height c.height-height.ensures.size c.requires.inside (omega arith) (omega arith) in
    ((λ no. absurd cc), (λ shows. c.if-not-same_run.ensures.1 (row_same r c.args.place (cell_of (patch c.args.at f.cells)) p y _ _ r-is (omega arith) (omega arith) rows.own_size rows.other_size rows.own rows.other shows)))

pub loop-y-preserved : goal.loop-y-preserved
loop-y-preserved g c =
    let p = c.args.self.now in
    let f = c.args.plane.now in
    let own = c.plane-own.result.now in
    let stands = c.place-stands.result in
    let r = c.overlap-here.result in
    let y = c.loop-y.y in
    let r-is : r ≡ overlap_of c.args.place p.place = c.overlap-here.ensures ∙ ap (overlap_of c.args.place) c.place.ensures in
    let some = c.if-here-eq0.false in
    let top = c.loop-y.auto.y in
    let bottom = c.loop-y-test.true in
    let rows : RowsOf r c.args.at p f y (run_in own.cells stands own.width r.x y r.width) (run_in f.cells c.args.at f.width r.x y r.width)
    = rows_of r c.args.place c.args.at stands p own f y r-is (omega arith) c.plane-own.ensures.value c.place-stands.ensures c.plane-own.ensures.full c.requires.width c.requires.height c.height-height.ensures.size c.requires.inside (omega arith) (omega arith) in
    above_more r (cell_of (patch c.args.at f.cells)) p y _ _ rows.own rows.other (c.same_run.ensures.0 c.if-not-same_run.false) c.loop-y.invariant
