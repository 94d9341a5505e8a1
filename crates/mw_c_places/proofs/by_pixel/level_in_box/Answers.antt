use Rattle.std.proofs.Common.{◌≡◌, ℤ, pos, ◌+ℤ◌, ap, arith, of_z, to_z, w64, ◌∙◌}
use Rattle.std.proofs.lemmas.Int.{ints}
use Rattle.mw_model.specs.Pictures.{sample_at}
use Rattle.mw_c_places.proofs.by_pixel.level_in_box.Goals as goal

pub returns : goal.returns
returns g c =
    let f = g.S.Levels.image c.args.f.now in
    let x : ℤ = pos c.args.x +ℤ (c.args.offsets.x0 +ℤ pos c.args.i) in
    let column : ℤ = to_z w64 (of_z w64 (to_z w64 (of_z w64 c.from.result) +ℤ to_z w64 (of_z w64 c.right_of-column.result))) in
    let row : ℤ = to_z w64 (of_z w64 (to_z w64 (of_z w64 c.from-2.result) +ℤ to_z w64 (of_z w64 c.below-row.result))) in
    let across : column ≡ x = omega (arith, ints, c.from.ensures, c.right_of-column.ensures.value) in
    let down : row ≡ pos c.args.y +ℤ (c.args.offsets.y0 +ℤ pos c.args.j) = omega (arith, ints, c.from-2.ensures, c.below-row.ensures.value) in
    c.seen_at.ensures ∙ ap (λ (t : ℤ). sample_at f t row) across ∙ ap (sample_at f x) down
