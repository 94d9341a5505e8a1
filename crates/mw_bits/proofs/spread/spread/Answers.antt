use Rattle.std.proofs.Common.{◌≡◌, ℕ, ◌*◌, ◌+◌, ◌+ℤ◌, pos, ℤ, List, ap, ◌∙◌, arith, length, to_z, of_z, w64}
use Rattle.std.proofs.lemmas.Int.{ints}
use Rattle.mw_model.proofs.mw_facts.Elements.{take-written}
use Rattle.mw_model.specs.Rasters.{raster, cell_at}
use Rattle.mw_offset.specs.mw_lane.Shifted.{merge_at}
use Rattle.mw_offset.proofs.mw_line.Rows.{rows_fit}
use Rattle.mw_offset.specs.mw_pixel_words.Packed.{bit_of}
use Rattle.mw_offset.proofs.mw_pixel_words.Done.{blank_bit}
use Rattle.mw_bits.proofs.spread.spread.Goals as goal

pub returns-clause-cells : goal.returns-clause-cells
returns-clause-cells g c =
    let f = g.E.Extremum.merge in
    let n = g.E.Extremum.neutral_of 1 in
    let set = c.args.set.now in
    let items = c.in_ok-cells.cells.items in
    let out = c.spread_rows.new.out in
    let wide = c.args.wide in
    let whole : length out ≡ c.in_ok-cells.cells.len = omega arith in
    let to_x : ℤ = to_z w64 (of_z w64 c.args.column) in
    let to_y : ℤ = to_z w64 (of_z w64 c.args.row) in
    let x-is : to_x ≡ c.args.column = omega (arith, ints) in
    let y-is : to_y ≡ c.args.row = omega (arith, ints) in
    let seen = λ (column row : ℤ). cell_at (raster set.place.width set.place.height set.cells) column row in
    λ x y less row_less.
    let at = y * (64 * wide) + x in
    ap (λ (t : List ℕ). bit_of t at) (take-written items out c.in_ok-cells.cells.len whole)
    ∙ c.spread_rows.ensures x y less row_less
    ∙ ap (λ (t : List ℕ). merge_at f (bit_of t at) (seen (to_x +ℤ pos x) (to_y +ℤ pos y))) (c.as_mut_slice-2.ensures.value ∙ c.in_ok-cells.ensures)
    ∙ ap (λ (t : ℕ). merge_at f t (seen (to_x +ℤ pos x) (to_y +ℤ pos y))) (blank_bit (c.args.high * wide + 1) c.neutral_word.result n at (omega (arith, rows_fit y c.args.high wide row_less)) c.neutral_word.ensures)
    ∙ ap (λ (t : ℤ). merge_at f n (seen (t +ℤ pos x) (to_y +ℤ pos y))) x-is
    ∙ ap (λ (t : ℤ). merge_at f n (seen (c.args.column +ℤ pos x) (t +ℤ pos y))) y-is
