use Rattle.std.proofs.Common.{◌≡◌, ◌+◌, ◌*◌, ◌+ℤ◌, pos, ℕ, ap, arith, ◌∙◌}
use Rattle.std.proofs.lemmas.Int.{ints}
use Rattle.std.proofs.lemmas.Nat.{mul-le}
use Rattle.mw_model.proofs.Nonnegative.{nonnegative_is}
use Rattle.mw_model.specs.Rectangles.{nonnegative}
use Rattle.mw_offset_lent.proofs.places.place_of.Goals as goal

pub overflow_mul-result : goal.overflow_mul-result
overflow_mul-result c = omega (arith, c.requires.small, mul-le c.steps_from-row.result c.args.wide 128 c.args.wide c.steps_from-row.ensures.few (omega arith))

pub overflow_add-result : goal.overflow_add-result
overflow_add-result c = omega (arith, c.requires.small, c.steps_from-column.ensures.few, mul-le c.steps_from-row.result c.args.wide 128 c.args.wide c.steps_from-row.ensures.few (omega arith))

pub returns : goal.returns
returns c =
    let rows : c.steps_from-row.result ≡ nonnegative (c.args.offset.dy +ℤ pos c.args.around.down) = omega (arith, ints, nonnegative_is, c.steps_from-row.ensures.value) in
    let columns : c.steps_from-column.result ≡ nonnegative (c.args.offset.dx +ℤ pos c.args.around.across) = omega (arith, ints, nonnegative_is, c.steps_from-column.ensures.value) in
    ap (λ (t : ℕ). t * c.args.wide + c.steps_from-column.result) rows ∙ ap (λ (t : ℕ). nonnegative (c.args.offset.dy +ℤ pos c.args.around.down) * c.args.wide + t) columns
