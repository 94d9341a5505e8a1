use Rattle.std.proofs.Common.{◌≡◌, ℕ, ◌+◌, ◌-◌, ◌≤◌, min, ◌∙◌, ap, arith, pos, ◌-ℤ◌, w32}
use mir.Val.{SFits}
use Rattle.std.proofs.lemmas.Int.{ints, to_z-of_z}
use Rattle.mw_model.specs.Rectangles.{nonnegative}
use Rattle.mw_line.proofs.Seen.{side_seen, few_before}
use Rattle.mw_line.proofs.sides.seen_side.Goals as goal

pub returns : goal.returns
returns c =
    let a_fits : SFits w32 c.args.a = c.ranges.a in
    let b_fits : SFits w32 c.args.b = c.ranges.b in
    let skipped = simp to_z-of_z at c.places_before-skipped.ensures in
    let to_end = simp to_z-of_z at c.places_to_end-to_end.ensures in
    let size = simp to_z-of_z at c.places_of_side.ensures in
    let end : c.from.result + c.from-2.result ≡ c.args.first + c.args.len = omega arith in
    let few : c.places_before-skipped.result ≤ 17179869184 = few_before c.args.first c.args.tile c.args.side c.args.a c.places_before-skipped.result skipped (omega arith) (omega (arith, ints)) in
    let count : c.saturating_sub.result ≡ min c.places_to_end-to_end.result c.places_of_side.result - c.places_before-skipped.result = omega arith in
    side_seen c.args.tile c.args.side c.args.first c.args.len c.args.a c.args.b c.places_before-skipped.result c.places_to_end-to_end.result c.places_of_side.result c.saturating_sub.result
    skipped (to_end ∙ ap (λ (t : ℕ). nonnegative (pos t -ℤ pos c.args.tile -ℤ c.args.a)) end) size count few
