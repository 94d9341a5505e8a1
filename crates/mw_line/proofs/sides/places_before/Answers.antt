use Rattle.std.proofs.Common.{arith}
use Rattle.std.proofs.lemmas.Int.{ints}
use Rattle.mw_model.proofs.Nonnegative.{nonnegative_is}
use Rattle.mw_line.proofs.sides.places_before.Goals as goal

pub overflow_add-ahead : goal.overflow_add-ahead
overflow_add-ahead c = omega (arith, ints)

pub returns : goal.returns
returns c = omega (arith, ints, nonnegative_is)
