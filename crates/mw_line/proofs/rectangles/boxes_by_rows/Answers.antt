use Rattle.std.proofs.Common.{◌≡◌, ◌*◌, ◌+◌, ◌-◌, ◌+ℤ◌, pos, ℕ, ℤ, List, ap, sym, ◌∙◌, arith, length, replicate, get_or}
use Rattle.std.proofs.lemmas.List.{length-replicate, get_or-take}
use Rattle.mw_model.specs.Rasters.{raster, cell_at}
use Rattle.mw_lane.specs.Shifted.{merge_at}
use Rattle.mw_line.specs.Extrema.{over}
use Rattle.mw_line.proofs.Over.{over_shift}
use Rattle.mw_line.proofs.Rows.{rows_fit}
use Rattle.mw_line.proofs.rectangles.boxes_by_rows.Goals as goal

pub returns-clause-cells : goal.returns-clause-cells
returns-clause-cells g c =
    let f = g.E.Extremum.merge in
    let n = c.args.neutral in
    let window = c.args.window.now in
    let w = c.args.slide.width in
    let wide = w + (c.args.slide.across - 1) + 63 in
    let rows = c.in_ok-rows.rows.items in
    let at = λ (column row : ℤ). merge_at f n (cell_at (raster window.place.width window.place.height window.cells) column row) in
    let blank : c.as_slice.result.now ≡ replicate wide n = c.as_slice.ensures.value ∙ c.in_ok-blank.ensures in
    let blank-is : c.as_slice.result.now ≡ replicate (length c.as_slice.result.now) n = blank ∙ ap (λ (t : ℕ). replicate t n) (sym (ap length blank ∙ length-replicate wide n)) in
    λ x y less row_less.
    ap (λ (t : List g.row.P.Denot). get_or t (y * w + x) n) c.truncate.ensures.items
    ∙ get_or-take (c.args.slide.height * w) rows (y * w + x) n (omega (arith, rows_fit y c.args.slide.height w row_less))
    ∙ c.in_ok-rows.ensures.cells n blank-is x y less (omega arith)
    ∙ over_shift f (λ j. over f (λ i. at (c.args.slide.column +ℤ pos (x + i)) (c.args.slide.row +ℤ pos j)) 0 (c.args.slide.across - 1)) y 0 y (c.args.slide.down - 1) (omega arith)
