use Rattle.std.proofs.Common.{rules, ◌≡◌, ◌+◌, ◌-◌, ◌*◌, ◌++◌, ◌+ℤ◌, pos, ℕ, ℤ, List, ap, ◌∙◌, arith, length, length-take, take, refl, get_or, to_z, of_z, w64}
use Rattle.std.proofs.lemmas.Int.{ints}
use Rattle.mw_model.proofs.mw_facts.Elements.{take-written, get_or-replicate_same}
use Rattle.mw_model.specs.Rasters.{raster, cell_at}
use Rattle.mw_lane.specs.Shifted.{merge_at}
use Rattle.mw_line.specs.Columns.{IsGrown}
use Rattle.mw_line.specs.Extrema.{over}
use Rattle.mw_line.proofs.Growing.{grown_none, grown_longer, row_behind}
use Rattle.mw_line.proofs.Over.{over_same}
use Rattle.mw_line.proofs.rectangles.slide_rows.Goals as goal

pub loop-y-init : goal.loop-y-init
loop-y-init g c = record {
  size = search rules;
  made = λ n blank-is. grown_none g.E.Extremum.merge _ n c.args.slide.width c.args.slide.down _ c.requires.some.1;
}

pub loop-y-preserved : goal.loop-y-preserved
loop-y-preserved g c =
    let f = g.E.Extremum.merge in
    let window = c.args.window.now in
    let blank = c.args.blank.now in
    let y = c.loop-y.y in
    let w = c.args.slide.width in
    let rows = c.loop-y.rows.items in
    let line = c.slide_row.new.line in
    let grown = c.grow.new.rows in
    let to_x : ℤ = c.args.slide.column in
    let from_y : ℤ = c.args.slide.row in
    let to_y : ℤ = to_z w64 (of_z w64 (to_z w64 (of_z w64 from_y) +ℤ to_z w64 y)) in
    let y-is : to_y ≡ from_y +ℤ pos y = omega (arith, ints) in
    let at = λ (column row : ℤ) (best : g.row.P.Denot). merge_at f best (cell_at (raster window.place.width window.place.height window.cells) column row) in
    let all : c.as_mut_slice.result.now ≡ rows ++ take w line = c.as_mut_slice.ensures.value ∙ c.in_ok-extend_from_slice.ensures.items in
    record {
      size = omega (arith, c.in_ok-extend_from_slice.ensures.len, c.loop-y.invariant.size, length-take w line);
      made = λ n blank-is.
          let value = λ (x j : ℕ). over f (λ i. at (to_x +ℤ pos (x + i)) (from_y +ℤ pos j) n) 0 (c.args.slide.across - 1) in
          let before : IsGrown f value n w c.args.slide.down y c.as_mut_slice.result.now = rw all (grown_longer f value n w c.args.slide.down y rows (take w line) c.requires.some.1 (omega (arith, c.loop-y.invariant.size)) (c.loop-y.invariant.made n blank-is)) in
          rw (take-written c.extend_from_slice.new.self.items grown c.extend_from_slice.new.self.len (omega arith)) (c.grow.ensures value n before (λ x less.
          ap (λ (t : List g.row.P.Denot). get_or t (y * w + x) n) all
          ∙ row_behind w y w rows line n (omega (arith, c.loop-y.invariant.size)) refl (omega arith) x less
          ∙ c.slide_row.ensures x n (omega arith)
          ∙ over_same f (λ i. at (to_x +ℤ pos (x + i)) to_y (get_or blank (x + i) n)) (λ i. at (to_x +ℤ pos (x + i)) (from_y +ℤ pos y) n) 0 (c.args.slide.across - 1) (λ i from to.
          ap (λ (t : ℤ). at (to_x +ℤ pos (x + i)) t (get_or blank (x + i) n)) y-is
          ∙ ap (λ (t : List g.row.P.Denot). at (to_x +ℤ pos (x + i)) (from_y +ℤ pos y) (get_or t (x + i) n)) blank-is
          ∙ ap (at (to_x +ℤ pos (x + i)) (from_y +ℤ pos y)) (get_or-replicate_same (length blank) (x + i) n))));
    }

pub returns-clause-cells : goal.returns-clause-cells
returns-clause-cells g c = λ n blank-is x y less row_less. (c.loop-y.invariant.made n blank-is).whole x y less (omega arith)
