use Rattle.std.proofs.Common.{◌≡◌, ℤ, arith, subst, to_z, of_z, w32}
use Rattle.std.proofs.lemmas.Int.{ints}
use Rattle.mw_line.specs.Sides.{IsSeenSide}
use Rattle.mw_line.proofs.sides.seen_down.Goals as goal

pub returns : goal.returns
returns c =
    let box = c.args.offsets in
    let tile = c.args.tile in
    let place = c.args.place in
    let seen = c.seen_side.result in
    let y0 : ℤ = to_z w32 (of_z w32 box.y0) in
    let y1 : ℤ = to_z w32 (of_z w32 box.y1) in
    let y0-is : y0 ≡ box.y0 = omega (arith, ints) in
    let y1-is : y1 ≡ box.y1 = omega (arith, ints) in
    subst (λ (t : ℤ). IsSeenSide tile.y tile.height place.y place.height box.y0 t seen.skipped seen.count) y1-is
    (subst (λ (t : ℤ). IsSeenSide tile.y tile.height place.y place.height t y1 seen.skipped seen.count) y0-is c.seen_side.ensures)
