use Rattle.std.proofs.Common.{◌≡◌, ◌*◌, ◌+◌, ◌-◌, ◌+ℤ◌, ℤ, pos, ap, ◌∙◌, arith, to_z, of_z, w64, length, take, drop, length-take, length-drop}
use Rattle.std.proofs.lemmas.Int.{ints}
use Rattle.std.specs.Option.{unwrap_or}
use Rattle.mw_model.specs.Rasters.{raster, cell_at}
use Rattle.mw_line.proofs.Rows.{rows_more, rows_fit}
use Rattle.mw_chord_lent.proofs.layout.lay_all.Goals as goal

pub loop-y-preserved : goal.loop-y-preserved
loop-y-preserved g c =
    let w = c.args.lent.now in
    let n = c.args.neutral in
    let wide = c.args.rows.wide in
    let y = c.loop-y.y in
    let m = y * wide + wide - y * wide in
    let line = take m (drop (y * wide) c.loop-y.out) in
    let from_x : ℤ = c.args.rows.column in
    let from_y : ℤ = c.args.rows.row in
    let to_x : ℤ = to_z w64 (of_z w64 from_x) in
    let to_y : ℤ = to_z w64 (of_z w64 (to_z w64 (of_z w64 from_y) +ℤ to_z w64 y)) in
    let x-is : to_x ≡ from_x = omega (arith, ints) in
    let y-is : to_y ≡ from_y +ℤ pos y = omega (arith, ints) in
    let fits = rows_fit y c.args.rows.high wide c.loop-y-test.true in
    let whole : length line ≡ wide = omega (arith, length-take m (drop (y * wide) c.loop-y.out), length-drop (y * wide) c.loop-y.out, c.loop-y.invariant.size, fits) in
    let seen = λ (column row : ℤ). cell_at (raster w.place.width w.place.height w.cells) column row in
    rows_more (λ held x j. unwrap_or (seen (from_x +ℤ pos x) (from_y +ℤ pos j)) n) wide c.args.rows.high y m c.args.out.now c.loop-y.out c.lay_row.new.out
    c.loop-y-test.true (omega arith) (omega (arith, c.lay_row.auto.out, whole))
    (λ x d less. c.lay_row.ensures x d (omega (arith, whole))
    ∙ ap (λ (t : ℤ). unwrap_or (seen (t +ℤ pos x) to_y) n) x-is
    ∙ ap (λ (t : ℤ). unwrap_or (seen (from_x +ℤ pos x) t) n) y-is)
    c.loop-y.invariant
