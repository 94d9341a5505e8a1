use Rattle.std.proofs.Common.{◌≡◌, ◌+ℤ◌, ℤ, pos, ap, ◌∙◌, get_or, arith, to_z, of_z, w64}
use Rattle.std.proofs.lemmas.Int.{ints}
use Rattle.std.specs.Option.{unwrap_or}
use Rattle.mw_model.specs.Rasters.{raster, cell_at}
use Rattle.mw_chord_lent.proofs.layout.lay_row.Goals as goal

pub returns : goal.returns
returns g c = λ x d less.
    let w = c.args.lent.now in
    let seen = λ (column row : ℤ). cell_at (raster w.place.width w.place.height w.cells) column row in
    let to_x : ℤ = to_z w64 (of_z w64 c.args.column) in
    let to_y : ℤ = to_z w64 (of_z w64 c.args.row) in
    let x-is : to_x ≡ c.args.column = omega (arith, ints) in
    let y-is : to_y ≡ c.args.row = omega (arith, ints) in
    c.copy_lent_row.ensures x d (omega (arith, less, c.fill.auto.out))
    ∙ ap (λ (t : ℤ). unwrap_or (seen (t +ℤ pos x) to_y) (get_or c.fill.new.out x d)) x-is
    ∙ ap (λ (t : ℤ). unwrap_or (seen (c.args.column +ℤ pos x) t) (get_or c.fill.new.out x d)) y-is
    ∙ ap (unwrap_or (seen (c.args.column +ℤ pos x) c.args.row)) (c.fill.ensures x d less)
