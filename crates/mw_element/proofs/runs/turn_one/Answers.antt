use Rattle.std.proofs.Common.{ℤ, pos, ◌-ℤ◌, neg_ℤ, arith, to_z, of_z, w16}
use Rattle.std.proofs.lemmas.Int.{ints}
use Rattle.mw_element.proofs.Turned.{run_is}
use Rattle.mw_element.proofs.runs.turn_one.Goals as goal

pub returns : goal.returns
returns c =
    let r = c.args.run in
    let known = c.requires in
    let dx : ℤ = to_z w16 (of_z w16 (to_z w16 (of_z w16 (pos 1 -ℤ to_z w16 (of_z w16 r.dx))) -ℤ to_z w16 r.count)) in
    let dy : ℤ = to_z w16 (of_z w16 (pos 0 -ℤ to_z w16 (of_z w16 r.dy))) in
    run_is dx dy (pos 1 -ℤ r.dx -ℤ pos r.count) (neg_ℤ r.dy) r.count (omega (arith, ints, known.left, known.right, known.some)) (omega (arith, ints, known.top, known.bottom))
