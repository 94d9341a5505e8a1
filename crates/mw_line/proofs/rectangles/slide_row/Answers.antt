use Rattle.std.proofs.Common.{◌≡◌, ◌+◌, ◌-◌, ◌+ℤ◌, pos, ℕ, ℤ, List, ap, ◌∙◌, arith, get_or, to_z, of_z, w64}
use Rattle.std.proofs.lemmas.Int.{ints}
use Rattle.mw_model.specs.Rasters.{raster, cell_at}
use Rattle.mw_lane.specs.Shifted.{merge_at}
use Rattle.mw_line.proofs.SlidRows.{row_slid}
use Rattle.mw_line.proofs.rectangles.slide_row.Goals as goal

pub returns : goal.returns
returns g c =
    let f = g.E.Extremum.merge in
    let window = c.args.window.now in
    let to_x : ℤ = to_z w64 (of_z w64 c.args.slide.column) in
    let to_y : ℤ = to_z w64 (of_z w64 c.args.row) in
    let x-is : to_x ≡ c.args.slide.column = omega (arith, ints) in
    let y-is : to_y ≡ c.args.row = omega (arith, ints) in
    let at = λ (column row : ℤ) (best : g.row.P.Denot). merge_at f best (cell_at (raster window.place.width window.place.height window.cells) column row) in
    λ x d less.
    row_slid f (λ (x : ℕ) (best : g.row.P.Denot). at (c.args.slide.column +ℤ pos x) c.args.row best) c.args.blank.now c.combine_window_row.new.out c.slide_by.new.row c.args.slide.across (c.args.slide.width + (c.args.slide.across - 1)) c.requires.some.0 c.requires.within
    (λ x d lt. c.combine_window_row.ensures x d (omega arith)
    ∙ ap (λ (t : List g.row.P.Denot). at (to_x +ℤ pos x) to_y (get_or t x d)) c.copy_from_slice.ensures.after
    ∙ ap (λ (t : ℤ). at (t +ℤ pos x) to_y (get_or c.args.blank.now x d)) x-is
    ∙ ap (λ (t : ℤ). at (c.args.slide.column +ℤ pos x) t (get_or c.args.blank.now x d)) y-is)
    c.slide_by.ensures.windows (omega arith) x d (omega arith)
