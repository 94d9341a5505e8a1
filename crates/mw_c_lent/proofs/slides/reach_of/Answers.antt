use Rattle.std.proofs.Common.{arith}
use Rattle.std.proofs.lemmas.Int.{ints}
use Rattle.mw_model.specs.declared.offsets.Reach.{Reach}
use Rattle.mw_c_lent.proofs.Slid.{within_reach}
use Rattle.mw_c_lent.proofs.slides.reach_of.Goals as goal

pub returns-clause-reach : goal.returns-clause-reach
returns-clause-reach c =
    let reach : Reach = record { left = c.unsigned_abs.result; right = c.unsigned_abs-2.result; up = c.unsigned_abs-3.result; down = c.unsigned_abs-4.result } in
    within_reach c.args.offsets reach
    (omega (arith, ints, c.unsigned_abs.ensures.value, c.requires.left))
    (omega (arith, ints, c.unsigned_abs-2.ensures.value, c.requires.right))
    (omega (arith, ints, c.unsigned_abs-3.ensures.value, c.requires.above))
    (omega (arith, ints, c.unsigned_abs-4.ensures.value, c.requires.below))

pub returns-clause-low : goal.returns-clause-low
returns-clause-low c = λ beyond box. omega (arith, ints, c.unsigned_abs-3.ensures.value, c.unsigned_abs-4.ensures.value, c.requires.above, c.requires.below, box.low)
