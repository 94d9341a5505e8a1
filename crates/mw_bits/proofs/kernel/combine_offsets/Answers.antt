use Rattle.std.proofs.Common.{◌≡◌, ◌+◌, ◌*◌, ℤ, pos, ◌+ℤ◌, ◌-ℤ◌, get_or, to_z, of_z, w64, ap, ◌∙◌, arith}
use Rattle.std.proofs.lemmas.Int.{ints}
use Rattle.std.proofs.lemmas.List.{get_or_default}
use Rattle.mw_model.specs.declared.offsets.Offset.{Offset}
use Rattle.mw_model.specs.declared.offsets.Rect.{Rect}
use Rattle.mw_model.specs.Rasters.{raster, cell_at}
use Rattle.mw_model.specs.Windows.{seen_at}
use Rattle.mw_offset.specs.mw_lane.Shifted.{merge_at}
use Rattle.mw_offset.proofs.Merges.{fold_more_given}
use Rattle.mw_offset.specs.mw_pixel_words.Packed.{bit_of}
use Rattle.mw_bits.proofs.kernel.combine_offsets.Goals as goal

pub loop-offset-preserved : goal.loop-offset-preserved
loop-offset-preserved g c =
    let f = g.E.Extremum.merge in
    let none : Offset = record { dx = pos 0; dy = pos 0 } in
    let set = c.args.set.now in
    let tile = c.args.tile in
    let offsets = c.args.offsets.now in
    let i = c.loop-offset.offset-index in
    let b = get_or offsets i none in
    let out = c.loop-offset.out in
    let to_x : ℤ = to_z w64 (of_z w64 c.place_of-column.result) in
    let to_y : ℤ = to_z w64 (of_z w64 c.place_of-row.result) in
    let place_x = ap (λ (t : Rect). t.x) c.place-place.ensures.value in
    let place_y = ap (λ (t : Rect). t.y) c.place-place.ensures.value in
    let x-is : to_x ≡ pos tile.x +ℤ b.dx -ℤ pos set.place.x = omega (arith, ints, c.place_of-column.ensures.value, place_x) in
    let y-is : to_y ≡ pos tile.y +ℤ b.dy -ℤ pos set.place.y = omega (arith, ints, c.place_of-row.ensures.value, place_y) in
    let at = λ (column row : ℤ). cell_at (raster set.place.width set.place.height set.cells) column row in
    λ x y lt row_lt.
    let here = y * (64 * c.args.stride) + x in
    let there_x : pos tile.x +ℤ b.dx -ℤ pos set.place.x +ℤ pos x ≡ pos (tile.x + x) +ℤ b.dx -ℤ pos set.place.x = omega (arith, ints) in
    let there_y : pos tile.y +ℤ b.dy -ℤ pos set.place.y +ℤ pos y ≡ pos (tile.y + y) +ℤ b.dy -ℤ pos set.place.y = omega (arith, ints) in
    fold_more_given f (λ (t : Offset). seen_at set (pos (tile.x + x) +ℤ t.dx) (pos (tile.y + y) +ℤ t.dy)) (bit_of c.args.out.now here) offsets i b (bit_of out here) (bit_of c.spread_rows.new.out here)
    (omega arith) (get_or_default offsets i none b (omega arith)) (c.loop-offset.invariant x y lt row_lt)
    (c.spread_rows.ensures x y lt row_lt
    ∙ ap (λ (t : ℤ). merge_at f (bit_of out here) (at (t +ℤ pos x) (to_y +ℤ pos y))) x-is
    ∙ ap (λ (t : ℤ). merge_at f (bit_of out here) (at t (to_y +ℤ pos y))) there_x
    ∙ ap (λ (t : ℤ). merge_at f (bit_of out here) (at (pos (tile.x + x) +ℤ b.dx -ℤ pos set.place.x) (t +ℤ pos y))) y-is
    ∙ ap (λ (t : ℤ). merge_at f (bit_of out here) (at (pos (tile.x + x) +ℤ b.dx -ℤ pos set.place.x) t)) there_y)
