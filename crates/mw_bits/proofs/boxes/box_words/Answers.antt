use Rattle.std.proofs.Common.{◌≡◌, ◌<◌, ◌*◌, ◌+◌, ◌-◌, ◌/◌, ◌+ℤ◌, pos, ℕ, ℤ, List, length, ap, ◌∙◌, arith, to_z, of_z, w64}
use Rattle.std.proofs.lemmas.Int.{ints}
use Rattle.mw_model.proofs.mw_facts.Elements.{take-written}
use Rattle.mw_model.specs.Rasters.{raster, cell_at}
use Rattle.mw_offset.specs.mw_lane.Shifted.{merge_at}
use Rattle.mw_offset.specs.mw_line.Extrema.{over}
use Rattle.mw_offset.proofs.mw_line.Over.{over_same}
use Rattle.mw_offset.proofs.mw_line.Rows.{rows_fit}
use Rattle.mw_offset.specs.mw_pixel_words.Packed.{bit_of}
use Rattle.mw_bits_rows.proofs.Packs.{stride_wide}
use Rattle.mw_bits.proofs.boxes.box_words.Goals as goal

pub trimmed-requires-clause-words : goal.trimmed-requires-clause-words
trimmed-requires-clause-words g c = λ y lt.
    let s = c.stride.result in
    let wide = s + (c.args.looked.across + 62) / 64 in
    let high = c.args.tile.height + (c.args.looked.down - 1) in
    let out = c.slide_box.new.cells in
    let whole : length out ≡ c.in_ok-cells.cells.len = omega arith in
    let size = ap length (c.as_slice.ensures.value ∙ take-written c.in_ok-cells.cells.items out c.in_ok-cells.cells.len whole) in
    omega (arith, size, whole, c.in_ok-cells.ensures.size, rows_fit y high wide (omega arith), c.stride.ensures.value)

pub returns-clause-cells : goal.returns-clause-cells
returns-clause-cells g c = λ x y less row_less.
    let f = g.E.Extremum.merge in
    let n = g.E.Extremum.neutral_of 1 in
    let set = c.args.set.now in
    let looked = c.args.looked in
    let s = c.stride.result in
    let wide = s + (looked.across + 62) / 64 in
    let high = c.args.tile.height + (looked.down - 1) in
    let out = c.slide_box.new.cells in
    let whole : length out ≡ c.in_ok-cells.cells.len = omega arith in
    let inside : x < 64 * s = omega (arith, stride_wide c.args.tile.width x less, c.stride.ensures.value) in
    let at = y * (64 * wide) + x in
    let seen = λ (column row : ℤ). merge_at f n (cell_at (raster set.place.width set.place.height set.cells) column row) in
    let to_x : ℤ = to_z w64 (of_z w64 looked.column) in
    let to_y : ℤ = to_z w64 (of_z w64 looked.row) in
    let x-is : to_x ≡ looked.column = omega (arith, ints) in
    let y-is : to_y ≡ looked.row = omega (arith, ints) in
    c.in_ok-made.ensures.bits x y less row_less
    ∙ ap (λ (t : List ℕ). bit_of t at) (c.as_slice.ensures.value ∙ take-written c.in_ok-cells.cells.items out c.in_ok-cells.cells.len whole)
    ∙ c.slide_box.ensures x y (omega (arith, inside)) (omega arith)
    ∙ over_same f (λ j. over f (λ i. bit_of c.as_mut_slice.result.now ((y + j) * (64 * wide) + (x + i))) 0 (looked.across - 1))
    (λ j. over f (λ i. seen (looked.column +ℤ pos (x + i)) (looked.row +ℤ pos (y + j))) 0 (looked.across - 1)) 0 (looked.down - 1)
    (λ j from to.
    over_same f (λ i. bit_of c.as_mut_slice.result.now ((y + j) * (64 * wide) + (x + i))) (λ i. seen (looked.column +ℤ pos (x + i)) (looked.row +ℤ pos (y + j))) 0 (looked.across - 1)
    (λ i after before.
    ap (λ (t : List ℕ). bit_of t ((y + j) * (64 * wide) + (x + i))) c.as_mut_slice.ensures.value
    ∙ c.in_ok-cells.ensures.cells (x + i) (y + j) (omega (arith, inside)) (omega arith)
    ∙ ap (λ (t : ℤ). seen (t +ℤ pos (x + i)) (to_y +ℤ pos (y + j))) x-is
    ∙ ap (λ (t : ℤ). seen (looked.column +ℤ pos (x + i)) (t +ℤ pos (y + j))) y-is))
