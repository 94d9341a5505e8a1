use Rattle.std.proofs.Common.{◌≡◌, ℕ, ◌+◌, ◌-◌, ◌*◌, min, ℤ, pos, ◌+ℤ◌, to_z, of_z, w64, List, length, ap, arith, ◌∙◌}
use Rattle.std.proofs.lemmas.Int.{ints}
use Rattle.mw_model.proofs.mw_facts.Elements.{take-written}
use Rattle.mw_model.specs.Rasters.{raster, cell_at}
use Rattle.mw_bits.specs.mw_lane.Shifted.{merge_at}
use Rattle.mw_bits.specs.mw_pixel_words.Packed.{bit_of}
use Rattle.mw_bits.proofs.mw_pixel_words.Bits.{rows_fit}
use Rattle.mw_rank_bits.proofs.tiles.lacking.Goals as goal

pub returns-clause-cells : goal.returns-clause-cells
returns-clause-cells c =
    let out = c.flip_words.new.words in
    let cells = c.in_ok-cells.cells in
    let wide = c.args.wide in
    let place = c.args.set.now.place in
    let f = raster place.width place.height c.args.set.now.cells in
    let column : ℤ = to_z w64 (of_z w64 c.args.column) in
    let row : ℤ = to_z w64 (of_z w64 c.args.row) in
    let column-is : column ≡ c.args.column = omega (arith, ints) in
    let row-is : row ≡ c.args.row = omega (arith, ints) in
    let old = ap length c.as_mut_slice.ensures.value in
    let whole : length out ≡ cells.len = omega (arith, c.as_mut_slice.ensures.len) in
    rw (take-written cells.items out cells.len whole)
    (λ x y lt less.
    let p = y * (64 * wide) + x in
    let fits = rows_fit y c.args.high wide less in
    let seen : ℤ → ℤ → ℕ = λ p q. 1 - merge_at min 1 (cell_at f (p +ℤ pos x) (q +ℤ pos y)) in
    c.flip_words.ensures p (omega (arith, fits, whole, c.as_mut_slice.ensures.len, c.in_ok-cells.ensures.size))
    ∙ ap (λ (t : List ℕ). 1 - bit_of t p) c.as_mut_slice.ensures.value
    ∙ ap (λ (t : ℕ). 1 - t) (c.in_ok-cells.ensures.cells x y lt less)
    ∙ ap (λ (t : ℤ). seen t row) column-is
    ∙ ap (seen c.args.column) row-is)
