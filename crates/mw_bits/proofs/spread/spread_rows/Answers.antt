use Rattle.std.proofs.Common.{◌≡◌, ◌*◌, ◌+◌, ◌-◌, ◌+ℤ◌, ℤ, pos, ap, ◌∙◌, arith, to_z, of_z, w64, length, take, drop, length-take, length-drop}
use Rattle.std.proofs.lemmas.Int.{ints}
use Rattle.mw_model.specs.Rasters.{raster, cell_at}
use Rattle.mw_offset.specs.mw_lane.Shifted.{merge_at}
use Rattle.mw_offset.proofs.mw_line.Rows.{rows_fit}
use Rattle.mw_offset.specs.mw_pixel_words.Packed.{bit_of}
use Rattle.mw_offset.proofs.mw_pixel_words.Done.{bit_rows_more}
use Rattle.mw_bits.proofs.spread.spread_rows.Goals as goal

pub loop-y-preserved : goal.loop-y-preserved
loop-y-preserved g c =
    let f = g.E.Extremum.merge in
    let set = c.args.set.now in
    let wide = c.args.wide in
    let y = c.loop-y.y in
    let m = y * wide + wide - y * wide in
    let to_x : ℤ = to_z w64 (of_z w64 c.args.column) in
    let from_y : ℤ = to_z w64 (of_z w64 c.args.row) in
    let to_y : ℤ = to_z w64 (of_z w64 (from_y +ℤ to_z w64 y)) in
    let y-is : to_y ≡ from_y +ℤ pos y = omega (arith, ints) in
    let fits = rows_fit y c.args.high wide c.loop-y-test.true in
    let whole : length (take m (drop (y * wide) c.loop-y.out)) ≡ wide = omega (arith, length-take m (drop (y * wide) c.loop-y.out), length-drop (y * wide) c.loop-y.out, c.loop-y.invariant.room, fits) in
    bit_rows_more (λ best x j. merge_at f best (cell_at (raster set.place.width set.place.height set.cells) (to_x +ℤ pos x) (from_y +ℤ pos j))) wide c.args.high y m c.args.out.now c.loop-y.out c.combine_window_row.new.out
    c.loop-y-test.true (omega arith) (omega (arith, c.combine_window_row.auto.out, whole))
    (λ x less. c.combine_window_row.ensures x (omega (arith, whole))
    ∙ ap (λ (t : ℤ). merge_at f (bit_of (take m (drop (y * wide) c.loop-y.out)) x) (cell_at (raster set.place.width set.place.height set.cells) (to_x +ℤ pos x) t)) y-is)
    c.loop-y.invariant
