use Rattle.std.proofs.Common.{◌≡◌, ℤ, arith, subst, to_z, of_z, w32}
use Rattle.std.proofs.lemmas.Int.{ints}
use Rattle.mw_line.specs.Sides.{IsSeenSide}
use Rattle.mw_line.proofs.sides.seen_across.Goals as goal

pub returns : goal.returns
returns c =
    let box = c.args.offsets in
    let tile = c.args.tile in
    let place = c.args.place in
    let seen = c.seen_side.result in
    let x0 : ℤ = to_z w32 (of_z w32 box.x0) in
    let x1 : ℤ = to_z w32 (of_z w32 box.x1) in
    let x0-is : x0 ≡ box.x0 = omega (arith, ints) in
    let x1-is : x1 ≡ box.x1 = omega (arith, ints) in
    subst (λ (t : ℤ). IsSeenSide tile.x tile.width place.x place.width box.x0 t seen.skipped seen.count) x1-is
    (subst (λ (t : ℤ). IsSeenSide tile.x tile.width place.x place.width t x1 seen.skipped seen.count) x0-is c.seen_side.ensures)
