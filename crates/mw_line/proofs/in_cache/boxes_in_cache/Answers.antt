use Rattle.std.proofs.Common.{◌≡◌, ◌+◌, ◌-◌, ◌*◌, ◌+ℤ◌, pos, ℤ, List, length, get_or, to_z, of_z, w64, ap, refl, ◌∙◌, arith}
use Rattle.std.specs.Option.{unwrap_or}
use Rattle.std.proofs.lemmas.Int.{ints}
use Rattle.mw_model.proofs.mw_facts.Elements.{take-written, get_or-replicate_same}
use Rattle.mw_model.specs.Rasters.{raster, cell_at}
use Rattle.mw_line.specs.Extrema.{over}
use Rattle.mw_line.proofs.Cells.{box_seen}
use Rattle.mw_line.proofs.Folds.{IsExtremum}
use Rattle.mw_line.proofs.in_cache.boxes_in_cache.Goals as goal

pub returns-clause-cells : goal.returns-clause-cells
returns-clause-cells g c = λ x y less row_less.
    let f = g.E.Extremum.merge in
    let laws : IsExtremum f = record { commutes = g.met.E.Extremum.commutes; associates = g.met.E.Extremum.associates; is_idempotent = g.met.E.Extremum.is_idempotent } in
    let w = c.args.window.now in
    let s = c.args.slide in
    let n = c.args.neutral in
    let wide = s.width + (s.across - 1) in
    let high = s.height + (s.down - 1) in
    let cells = c.as_mut_slice.result.now in
    let at = y * s.width + x in
    let to_x : ℤ = to_z w64 (of_z w64 s.column) in
    let to_y : ℤ = to_z w64 (of_z w64 s.row) in
    let x-is : to_x ≡ s.column = omega (arith, ints) in
    let y-is : to_y ≡ s.row = omega (arith, ints) in
    let seen = λ (column row : ℤ). unwrap_or (cell_at (raster w.place.width w.place.height w.cells) column row) n in
    let made = c.merge_boxes.new.out in
    let whole : length made ≡ c.in_ok-samples.samples.len = omega arith in
    let blank : get_or c.as_mut_slice-2.result.now at n ≡ n = ap (λ (t : List g.row.P.Denot). get_or t at n) (c.as_mut_slice-2.ensures.value ∙ c.in_ok-samples.ensures) ∙ get_or-replicate_same (s.height * s.width) at n in
    ap (λ (t : List g.row.P.Denot). get_or t at n) (take-written c.in_ok-samples.samples.items made c.in_ok-samples.samples.len whole)
    ∙ c.merge_boxes.ensures x y n less row_less
    ∙ ap (λ (t : g.row.P.Denot). f t (over f (λ j. over f (λ i. get_or cells ((y + j) * wide + (x + i)) n) 0 (s.across - 1)) 0 (s.down - 1))) blank
    ∙ box_seen f laws n cells (λ x y. cell_at (raster w.place.width w.place.height w.cells) (s.column +ℤ pos x) (s.row +ℤ pos y)) wide high s.width s.height s.across s.down x y refl refl
    (λ x y less row_less. ap (λ (t : List g.row.P.Denot). get_or t (y * wide + x) n) c.as_mut_slice.ensures.value
    ∙ c.in_ok-cells.ensures.cells x y less row_less
    ∙ ap (λ (t : ℤ). seen (t +ℤ pos x) (to_y +ℤ pos y)) x-is
    ∙ ap (λ (t : ℤ). seen (s.column +ℤ pos x) (t +ℤ pos y)) y-is) less row_less
