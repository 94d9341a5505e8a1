use Rattle.std.proofs.Common.{arith}
use Rattle.std.proofs.lemmas.Int.{ints}
use Rattle.mw_model.proofs.Nonnegative.{nonnegative_is}
use Rattle.mw_offset_lent.proofs.places.steps_from.Goals as goal

pub returns-clause-value : goal.returns-clause-value
returns-clause-value c = omega (arith, ints, nonnegative_is)
