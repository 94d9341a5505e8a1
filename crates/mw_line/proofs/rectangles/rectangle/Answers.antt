use Rattle.std.proofs.Common.{◌≡◌, ◌≤◌, ◌⊎◌, ◌*◌, ◌+ℤ◌, ◌-ℤ◌, pos, ℤ, ◌∙◌, arith, refl, replicate, to_z, of_z, w64}
use Rattle.std.specs.Prelude.{All}
use Rattle.std.proofs.lemmas.Int.{ints}
use Rattle.std.proofs.lemmas.Result.{IfOk-weaker}
use Rattle.mw_model.specs.Rectangles.{box_offsets}
use Rattle.mw_model.specs.Rasters.{Raster, raster, cell_at}
use Rattle.mw_model.specs.Windows.{seen_at}
use Rattle.mw_tile.specs.Windows.{IsWindow}
use Rattle.mw_line.specs.Extrema.{IsSlidingExtremum}
use Rattle.mw_line.proofs.Folds.{IsExtremum}
use Rattle.mw_line.proofs.Tiles.{IsLooked-sides, blank_tile, one_is_none, tile_made, tile_cell, on_frame}
use Rattle.mw_line.proofs.Within.{sliding_within}
use Rattle.mw_line.proofs.rectangles.rectangle.Goals as goal

pub returns-then-across-eq0-clause-over_window : goal.returns-then-across-eq0-clause-over_window
returns-then-across-eq0-clause-over_window g c =
    let w = c.args.window.now in
    let box = c.args.offsets in
    let tile = c.args.tile in
    let across = c.seen_across-across in
    let down = c.seen_down-down in
    let known = IsLooked-sides w box tile c.place-place.result box.x0 box.x1 box.y0 box.y1 across.result.skipped across.result.count down.result.skipped down.result.count c.place-place.ensures.value refl refl refl refl across.ensures down.ensures in
    let why : (across.result.count ≡ 0) ⊎ ((down.result.count ≡ 0) ⊎ ((tile.width ≡ 0) ⊎ (tile.height ≡ 0))) = one_is_none across.result.count down.result.count tile.width tile.height c.then-across-eq0.either in
    IfOk-weaker c.filled.result (λ p. p ≡ raster tile.width tile.height (replicate (tile.height * tile.width) c.args.neutral))
    (λ r. IsSlidingExtremum g.E.Extremum.merge c.args.neutral (seen_at w) (box_offsets box) tile r)
    (λ r r-is. blank_tile g.E.Extremum.merge c.args.neutral w box tile c.place-place.result box.x0 box.x1 box.y0 box.y1 across.result.skipped across.result.count down.result.skipped down.result.count r known why r-is)
    c.filled.ensures.value

pub returns-then-across-eq0-clause-over_frame : goal.returns-then-across-eq0-clause-over_frame
returns-then-across-eq0-clause-over_frame g c =
    let w = c.args.window.now in
    let element = box_offsets c.args.offsets in
    let tile = c.args.tile in
    IfOk-weaker c.filled.result (λ r. IsSlidingExtremum g.E.Extremum.merge c.args.neutral (seen_at w) element tile r)
    (λ r. (f : Raster g.row.P.Denot) → IsWindow w f element tile → IsSlidingExtremum g.E.Extremum.merge c.args.neutral (cell_at f) element tile r)
    (λ r made f window. on_frame g.E.Extremum.merge c.args.neutral w f element tile r made window)
    (returns-then-across-eq0-clause-over_window g c)

pub returns-then-across-eq0-clause-small : goal.returns-then-across-eq0-clause-small
returns-then-across-eq0-clause-small g c = λ most n-le all.
    let w = c.args.window.now in
    let element = box_offsets c.args.offsets in
    let f = g.E.Extremum.merge in
    let small = λ (s : g.row.P.Denot). g.P.Pixel.level s ≤ most in
    IfOk-weaker c.filled.result (λ r. IsSlidingExtremum f c.args.neutral (seen_at w) element c.args.tile r) (λ r. All small r.cells)
    (λ r made. sliding_within f small (λ a b p q. g.met.E.Extremum.stays_within a b most p q) c.args.neutral n-le w all element c.args.tile r made)
    (returns-then-across-eq0-clause-over_window g c)

pub returns-clause-over_window : goal.returns-clause-over_window
returns-clause-over_window g c =
    let f = g.E.Extremum.merge in
    let n = c.args.neutral in
    let laws : IsExtremum f = record { commutes = g.met.E.Extremum.commutes; associates = g.met.E.Extremum.associates; is_idempotent = g.met.E.Extremum.is_idempotent } in
    let w = c.args.window.now in
    let box = c.args.offsets in
    let tile = c.args.tile in
    let place = c.place-place.result in
    let across = c.seen_across-across in
    let down = c.seen_down-down in
    let known = IsLooked-sides w box tile place box.x0 box.x1 box.y0 box.y1 across.result.skipped across.result.count down.result.skipped down.result.count c.place-place.ensures.value refl refl refl refl across.ensures down.ensures in
    let column : ℤ = to_z w64 (of_z w64 c.first_seen-column.result) in
    let row : ℤ = to_z w64 (of_z w64 c.first_seen-row.result) in
    let column-is : column ≡ pos tile.x +ℤ (box.x0 +ℤ pos across.result.skipped) -ℤ pos place.x = omega (arith, ints, c.first_seen-column.ensures.value) in
    let row-is : row ≡ pos tile.y +ℤ (box.y0 +ℤ pos down.result.skipped) -ℤ pos place.y = omega (arith, ints, c.first_seen-row.ensures.value) in
    tile_made f n n (seen_at w) (box_offsets box) tile c.in_ok-samples.samples.items c.new.result c.new.ensures (omega (arith, c.in_ok-samples.ensures.size))
    (λ x y less row_less. c.in_ok-samples.ensures.cells x y less row_less
    ∙ tile_cell f laws n w box tile place box.x0 box.x1 box.y0 box.y1 across.result.skipped across.result.count down.result.skipped down.result.count known (omega arith) (omega arith) column row column-is row-is x y less row_less)

pub returns-clause-over_frame : goal.returns-clause-over_frame
returns-clause-over_frame g c = λ f window.
    on_frame g.E.Extremum.merge c.args.neutral c.args.window.now f (box_offsets c.args.offsets) c.args.tile c.new.result (returns-clause-over_window g c) window

pub returns-clause-small : goal.returns-clause-small
returns-clause-small g c = λ most n-le all.
    sliding_within g.E.Extremum.merge (λ (s : g.row.P.Denot). g.P.Pixel.level s ≤ most) (λ a b p q. g.met.E.Extremum.stays_within a b most p q) c.args.neutral n-le c.args.window.now all (box_offsets c.args.offsets)
    c.args.tile c.new.result (returns-clause-over_window g c)
