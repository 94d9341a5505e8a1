use Rattle.std.proofs.Common.{◌≡◌, refl, ap, arith, rules, ◌∙◌}
use Rattle.mw_model.specs.declared.offsets.Rect.{Rect}
use Rattle.mw_tile_pieces.specs.Patches.{frame_value, overlap_of}
use Rattle.mw_tile_pieces.proofs.Patches.{above_end, above_none, above_run, run_shows}
use Rattle.mw_tile_slots.specs.Tiles.{cells_of}
use Rattle.mw_tile_slots.proofs.Sharing.{row_within}
use Rattle.mw_tile_slots.proofs.equal.has_rows.Goals as goal

pub is_row-requires : goal.is_row-requires
is_row-requires g c =
    let r = c.overlap-here.result in
    let p = c.args.piece.now in
    let r-is : r ≡ overlap_of c.args.place p.place = c.overlap-here.ensures ∙ ap (overlap_of c.args.place) c.place.ensures in
    let xs = ap (λ (q : Rect). q.x) r-is in
    let ys = ap (λ (q : Rect). q.y) r-is in
    let ws = ap (λ (q : Rect). q.width) r-is in
    let hs = ap (λ (q : Rect). q.height) r-is in
    let some = c.if-here-eq0.false in
    let from = c.loop-y.auto.y in
    let test = c.loop-y-test.true in
    let row = row_within c.args.grid (cells_of c.args.tiles.now) r c.args.place p c.loop-y.y r.width r-is c.requires.within c.requires.placed (omega arith) (omega arith) (omega arith) refl in
    record { sides = c.requires.sides; across = row.0; down = row.1; placed = row.2; left = omega arith; right = omega arith; top = omega arith; bottom = omega arith }

pub returns-then-not-is_row : goal.returns-then-not-is_row
returns-then-not-is_row g c = λ f shows.
    let r = c.overlap-here.result in
    let p = c.args.piece.now in
    let r-is : r ≡ overlap_of c.args.place p.place = c.overlap-here.ensures ∙ ap (overlap_of c.args.place) c.place.ensures in
    let from = c.loop-y.auto.y in
    let test = c.loop-y-test.true in
    ((λ no. absurd cc), (λ whole. (c.if-not-is_row.ensures f shows).1 (run_shows r c.args.place (frame_value f) p c.loop-y.y r-is (omega arith) (omega arith) whole)))

pub loop-y-preserved : goal.loop-y-preserved
loop-y-preserved g c = λ f shows.
    above_run c.overlap-here.result (frame_value f) c.args.piece.now c.loop-y.y ((c.is_row.ensures f shows).0 c.if-not-is_row.false) (c.loop-y.invariant f shows)

pub returns : goal.returns
returns g c = λ f shows.
    let r = c.overlap-here.result in
    let p = c.args.piece.now in
    let r-is : r ≡ overlap_of c.args.place p.place = c.overlap-here.ensures ∙ ap (overlap_of c.args.place) c.place.ensures in
    ((λ yes. above_end r c.args.place (frame_value f) p c.loop-y.y r-is (let past = c.loop-y-test.false in omega arith) (c.loop-y.invariant f shows)), (λ whole. search rules))

pub returns-then-here-eq0 : goal.returns-then-here-eq0
returns-then-here-eq0 g c = λ f shows.
    let r-is : c.overlap-here.result ≡ overlap_of c.args.place c.args.piece.now.place = c.overlap-here.ensures ∙ ap (overlap_of c.args.place) c.place.ensures in
    ((λ yes. above_none c.overlap-here.result c.args.place (frame_value f) c.args.piece.now r-is c.if-here-eq0.true), (λ whole. search rules))
