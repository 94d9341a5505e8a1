use Rattle.std.proofs.Common.{arith}
use Rattle.std.proofs.lemmas.Int.{ints}
use Rattle.mw_model.proofs.Nonnegative.{nonnegative_is}
use Rattle.mw_element_runs.proofs.layout.columns_after.Goals as goal

pub returns-clause-value : goal.returns-clause-value
returns-clause-value c = omega (arith, ints, c.places_after.ensures.value, nonnegative_is)
