use Rattle.std.proofs.Common.{◌≡◌, ◌<◌, ℕ, ℤ, ap, ◌∙◌, arith, pos, ◌+ℤ◌, to_z, of_z, w64}
use lib.IntN.{nat_abs}
use Rattle.std.proofs.lemmas.Int.{ints}
use Rattle.mw_model.specs.declared.offsets.Rect.{Rect}
use Rattle.mw_model.specs.Rasters.{raster, cell_at}
use Rattle.mw_offset.specs.mw_lane.Shifted.{merge_at}
use Rattle.mw_offset.specs.mw_pixel_words.Packed.{bit_of}
use Rattle.mw_bits_rows.specs.Rows.{pixel_at}
use Rattle.mw_bits_rows.proofs.Paddings.{row_shows}
use Rattle.mw_bits.proofs.window_rows.combine_window_row.Goals as goal

pub returns-then-row-from : goal.returns-then-row-from
returns-then-row-from g c =
    let f = g.E.Extremum.merge in
    let set = c.args.set.now in
    let w = set.place.width in
    let h = set.place.height in
    let row = c.row_of.result.now in
    let to_x : ℤ = to_z w64 (of_z w64 c.args.column) in
    let to_y : ℤ = to_z w64 (of_z w64 c.args.row) in
    let x-is : to_x ≡ c.args.column = omega (arith, ints) in
    let y-is : pos (nat_abs to_y) ≡ c.args.row = omega (arith, ints) in
    let width-is = ap (λ (t : Rect). t.width) c.place-place.ensures.value in
    let height-is = ap (λ (t : Rect). t.height) c.place-place.ensures.value in
    let y-lt : nat_abs to_y < h = grind (arith, ints) in
    λ x lt.
    let best = bit_of c.args.out.now x in
    c.combine_row.ensures x lt
    ∙ ap (λ (t : ℕ). merge_at f best (pixel_at row t (to_x +ℤ pos x))) width-is
    ∙ ap (λ (t : ℤ). merge_at f best (pixel_at row w (t +ℤ pos x))) x-is
    ∙ ap (merge_at f best) (row_shows w h (nat_abs to_y) row set.cells c.row_of.ensures.size y-lt c.row_of.ensures.samples (c.args.column +ℤ pos x))
    ∙ ap (λ (t : ℤ). merge_at f best (cell_at (raster w h set.cells) (c.args.column +ℤ pos x) t)) y-is
