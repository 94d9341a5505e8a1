use Rattle.std.proofs.Common.{◌≡◌, ◌<◌, length, List, sym, subst, arith, rules, ◌∙◌}
use Rattle.std.specs.List.{AllByRecursion}
use Rattle.mw_model.proofs.mw_facts.Alls.{all-take_whole}
use Rattle.mw_model.specs.declared.offsets.Rect.{Rect}
use Rattle.mw_tile_pieces.specs.Patches.{frame_value, Patch, ShowsIn}
use Rattle.mw_tile_pieces.proofs.Patches.{all_next, each_plain, read_at, shown_plain}
use Rattle.mw_tile_slots.specs.Tiles.{cells_of, HasAll}
use Rattle.mw_tile_slots.proofs.equal.are_tiles.Goals as goal

pub is_piece-requires-clause-placed : goal.is_piece-requires-clause-placed
is_piece-requires-clause-placed g c = subst (λ (r : Rect). HasAll c.args.grid (cells_of c.args.tiles.now) r) (sym c.place-place.ensures) c.requires.placed

pub loop-piece-preserved : goal.loop-piece-preserved
loop-piece-preserved g c = λ f shows.
    all_next (ShowsIn c.place-place.result (frame_value f)) c.pieces-pieces.result.now c.loop-piece.piece-index c.piece-item.result c.loop-piece-test.true c.piece-item.is ((c.is_piece.ensures f shows).0 c.if-not-is_piece.false) (c.loop-piece.invariant f shows)

pub returns-then-not-is_piece : goal.returns-then-not-is_piece
returns-then-not-is_piece g c = λ f shows.
    let j = c.args.window.now in
    let k = c.loop-piece.piece-index in
    let p = c.piece-item.result in
    let lt : k < length j.pieces = subst (λ (t : List (Patch _)). k < length t) c.pieces-pieces.ensures.value c.loop-piece-test.true in
    let is = read_at j.pieces c.pieces-pieces.result.now k p c.pieces-pieces.ensures.value lt c.piece-item.is in
    ((λ no. absurd cc), (λ whole. (c.if-not-is_piece.ensures f shows).1 (each_plain j f c.place-place.result k p c.pieces-pieces.ensures.joint c.place-place.ensures lt is whole)))

pub returns : goal.returns
returns g c = λ f shows.
    let j = c.args.window.now in
    let wide : j.frame_width ≡ f.width = sym c.frame_width.ensures ∙ c.if-frame_width-width.false ∙ c.width.ensures.value ∙ sym shows.width in
    let high : j.frame_height ≡ f.height = sym c.frame_height.ensures ∙ c.if-frame_height-height.false ∙ c.height.ensures.value ∙ sym shows.height in
    let P : Patch _ → Type 0 = ShowsIn c.place-place.result (frame_value f) in
    let all : AllByRecursion P j.pieces = subst (AllByRecursion P) c.pieces-pieces.ensures.value (all-take_whole P c.pieces-pieces.result.now c.loop-piece.piece-index (omega (arith, c.loop-piece-test.false)) (c.loop-piece.invariant f shows)) in
    ((λ yes. shown_plain j f c.place-place.result c.pieces-pieces.ensures.joint c.place-place.ensures wide high all), (λ whole. search rules))
