use Rattle.std.proofs.Common.{arith}
use Rattle.std.proofs.lemmas.Int.{ints}
use Rattle.mw_c_lent.proofs.slides.is_around.Goals as goal

pub returns-clause-around : goal.returns-clause-around
returns-clause-around c = λ yes. record {
  left = omega (arith, ints, c.if-left-gt0.false, c.from-left.ensures);
  right = omega (arith, ints, c.if-right-lt0.false, c.from-right.ensures);
  above = omega (arith, ints, c.if-top-gt0.false, c.from-top.ensures);
  below = omega (arith, ints, c.if-bottom-lt0.false, c.from-bottom.ensures);
  narrow = omega (arith, ints, c.if-right-left-ge-LONGEST.false, c.from-left.ensures, c.from-right.ensures);
  low = omega (arith, ints, c.if-bottom-top-ge-LONGEST.false, c.from-top.ensures, c.from-bottom.ensures);
}

pub returns-then-left-gt0-clause-narrow : goal.returns-then-left-gt0-clause-narrow
returns-then-left-gt0-clause-narrow c = λ box. absurd (omega (arith, ints, c.if-left-gt0.true, c.from-left.ensures, box.left))

pub returns-then-right-lt0-clause-narrow : goal.returns-then-right-lt0-clause-narrow
returns-then-right-lt0-clause-narrow c = λ box. absurd (omega (arith, ints, c.if-right-lt0.true, c.from-right.ensures, box.right))

pub returns-then-top-gt0-clause-narrow : goal.returns-then-top-gt0-clause-narrow
returns-then-top-gt0-clause-narrow c = λ box. absurd (omega (arith, ints, c.if-top-gt0.true, c.from-top.ensures, box.above))

pub returns-then-bottom-lt0-clause-narrow : goal.returns-then-bottom-lt0-clause-narrow
returns-then-bottom-lt0-clause-narrow c = λ box. absurd (omega (arith, ints, c.if-bottom-lt0.true, c.from-bottom.ensures, box.below))

pub returns-then-right-left-ge-LONGEST-clause-narrow : goal.returns-then-right-left-ge-LONGEST-clause-narrow
returns-then-right-left-ge-LONGEST-clause-narrow c = λ box. absurd (omega (arith, ints, c.if-right-left-ge-LONGEST.true, c.from-right.ensures, c.from-left.ensures, box.narrow))

pub returns-then-bottom-top-ge-LONGEST-clause-narrow : goal.returns-then-bottom-top-ge-LONGEST-clause-narrow
returns-then-bottom-top-ge-LONGEST-clause-narrow c = λ box. absurd (omega (arith, ints, c.if-bottom-top-ge-LONGEST.true, c.from-bottom.ensures, c.from-top.ensures, box.low))
