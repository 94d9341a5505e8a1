use Rattle.std.proofs.Common.{arith}
use Rattle.std.proofs.lemmas.Int.{ints}
use Rattle.mw_model.proofs.Nonnegative.{nonnegative_is}
use Rattle.mw_element_runs.proofs.layout.places_from.Goals as goal

pub returns : goal.returns
returns c = omega (arith, ints, nonnegative_is)
