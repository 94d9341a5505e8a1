use Rattle.std.proofs.Common.{arith, ap, ◌∙◌, ℤ, pos, ◌≡◌, ◌+◌, ◌+ℤ◌, ◌-ℤ◌, to_z, of_z, w64, get_or}
use Rattle.std.proofs.lemmas.Int.{ints}
use Rattle.mw_model.specs.Rasters.{raster, cell_at}
use Rattle.mw_model.specs.declared.offsets.Rect.{Rect}
use Rattle.mw_line.specs.mw_lane.Shifted.{merge_at}
use Rattle.mw_offset.proofs.offsets.combine_offset.Goals as goal

pub returns : goal.returns
returns g c =
    let f = g.E.Extremum.merge in
    let w = c.args.window.now in
    let to_x : ℤ = to_z w64 (of_z w64 c.place_of-from_column.result) in
    let to_y : ℤ = to_z w64 (of_z w64 c.place_of-from_row.result) in
    let place_x = ap (λ (t : Rect). t.x) c.place-place.ensures.value in
    let place_y = ap (λ (t : Rect). t.y) c.place-place.ensures.value in
    let x-is : to_x ≡ pos c.args.column +ℤ c.args.offset.dx -ℤ pos w.place.x = omega (arith, ints, c.place_of-from_column.ensures.value, place_x) in
    let y-is : to_y ≡ pos c.args.row +ℤ c.args.offset.dy -ℤ pos w.place.y = omega (arith, ints, c.place_of-from_row.ensures.value, place_y) in
    let at = λ (column row : ℤ). cell_at (raster w.place.width w.place.height w.cells) column row in
    λ x d lt.
    let there : pos c.args.column +ℤ c.args.offset.dx -ℤ pos w.place.x +ℤ pos x ≡ pos (c.args.column + x) +ℤ c.args.offset.dx -ℤ pos w.place.x = omega (arith, ints) in
    c.combine_window_row.ensures x d lt
    ∙ ap (λ (t : ℤ). merge_at f (get_or c.args.out.now x d) (at (t +ℤ pos x) to_y)) x-is
    ∙ ap (λ (t : ℤ). merge_at f (get_or c.args.out.now x d) (at t to_y)) there
    ∙ ap (λ (t : ℤ). merge_at f (get_or c.args.out.now x d) (at (pos (c.args.column + x) +ℤ c.args.offset.dx -ℤ pos w.place.x) t)) y-is
