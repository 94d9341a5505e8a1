use Rattle.std.proofs.Common.{arith}
use Rattle.std.proofs.lemmas.Int.{ints}
use Rattle.mw_element_runs.proofs.layout.first_column.Goals as goal

pub returns-clause-value : goal.returns-clause-value
returns-clause-value c = omega (arith, ints, c.first_looked.ensures.value)
