use Rattle.std.proofs.Common.{arith}
use Rattle.std.proofs.lemmas.Int.{ints, clamps}
use Rattle.mw_element.proofs.offsets.stretch.Goals as goal

pub returns-clause-inside : goal.returns-clause-inside
returns-clause-inside c = record { left = omega (arith, ints, clamps); right = omega (arith, ints, clamps); top = omega (arith, ints, clamps); bottom = omega (arith, ints, clamps) }

pub returns-clause-outer : goal.returns-clause-outer
returns-clause-outer c = record { left = omega (arith, ints, clamps); right = omega (arith, ints, clamps); top = omega (arith, ints, clamps); bottom = omega (arith, ints, clamps) }

pub returns-clause-least : goal.returns-clause-least
returns-clause-least c = λ box lies in'. record { left = omega (arith, ints, clamps, lies.left, in'.left); right = omega (arith, ints, clamps, lies.right, in'.right); top = omega (arith, ints, clamps, lies.top, in'.top); bottom = omega (arith, ints, clamps, lies.bottom, in'.bottom) }
