use Rattle.std.proofs.Common.{◌≡◌, ◌⊎◌, ◌+ℤ◌, ◌-ℤ◌, pos, ℤ, fold, ap, sym, ◌∙◌, arith, refl, to_z, of_z, w64}
use Rattle.std.proofs.lemmas.Int.{ints}
use Rattle.mw_offset.proofs.mw_line.Folds.{IsExtremum}
use Rattle.mw_offset.proofs.mw_line.Tiles.{IsLooked-sides, tile_cell, one_is_none}
use Rattle.mw_bits.proofs.SlidBoxes.{seen_nowhere}
use Rattle.mw_bits.proofs.boxes.rectangle_words.Goals as goal

pub returns-then-across-eq0-clause-cells : goal.returns-then-across-eq0-clause-cells
returns-then-across-eq0-clause-cells g c = λ x y less row_less.
    let w = c.args.set.now in
    let box = c.args.offsets in
    let tile = c.args.tile in
    let across = c.seen_across-across in
    let down = c.seen_down-down in
    let known = IsLooked-sides w box tile c.place-place.result box.x0 box.x1 box.y0 box.y1 across.result.skipped across.result.count down.result.skipped down.result.count c.place-place.ensures.value refl refl refl refl across.ensures down.ensures in
    let why : (across.result.count ≡ 0) ⊎ ((down.result.count ≡ 0) ⊎ ((tile.width ≡ 0) ⊎ (tile.height ≡ 0))) = one_is_none across.result.count down.result.count tile.width tile.height c.then-across-eq0.either in
    c.in_ok-made.ensures.cells x y less row_less
    ∙ sym (ap (fold g.E.Extremum.merge (g.E.Extremum.neutral_of 1)) (seen_nowhere w box tile c.place-place.result box.x0 box.x1 box.y0 box.y1 across.result.skipped across.result.count down.result.skipped down.result.count known why x y less row_less))

pub returns-clause-cells : goal.returns-clause-cells
returns-clause-cells g c = λ x y less row_less.
    let f = g.E.Extremum.merge in
    let laws : IsExtremum f = record { commutes = g.met.E.Extremum.commutes; associates = g.met.E.Extremum.associates; is_idempotent = g.met.E.Extremum.is_idempotent } in
    let w = c.args.set.now in
    let box = c.args.offsets in
    let tile = c.args.tile in
    let place = c.place-place.result in
    let across = c.seen_across-across in
    let down = c.seen_down-down in
    let known = IsLooked-sides w box tile place box.x0 box.x1 box.y0 box.y1 across.result.skipped across.result.count down.result.skipped down.result.count c.place-place.ensures.value refl refl refl refl across.ensures down.ensures in
    let column : ℤ = to_z w64 (of_z w64 c.first_seen.result) in
    let row : ℤ = to_z w64 (of_z w64 c.first_seen-2.result) in
    let column-is : column ≡ pos tile.x +ℤ (box.x0 +ℤ pos across.result.skipped) -ℤ pos place.x = omega (arith, ints, c.first_seen.ensures.value) in
    let row-is : row ≡ pos tile.y +ℤ (box.y0 +ℤ pos down.result.skipped) -ℤ pos place.y = omega (arith, ints, c.first_seen-2.ensures.value) in
    c.in_ok-made-2.ensures.cells x y less row_less
    ∙ tile_cell f laws (g.E.Extremum.neutral_of 1) w box tile place box.x0 box.x1 box.y0 box.y1 across.result.skipped across.result.count down.result.skipped down.result.count known (omega arith) (omega arith)
    column row column-is row-is x y less row_less
