use Rattle.std.proofs.Common.{arith}
use Rattle.std.proofs.lemmas.Int.{ints}
use Rattle.mw_geodesic.proofs.symmetry.is_opposite.Goals as goal

pub returns-clause-opposite : goal.returns-clause-opposite
returns-clause-opposite c = λ same x y u v joins. record { columns = omega (arith, ints, joins.columns); rows = omega (arith, ints, joins.rows) }

pub returns-then-dx-ne0-clause-other : goal.returns-then-dx-ne0-clause-other
returns-then-dx-ne0-clause-other c = λ none x y u v there back. absurd (omega (arith, ints, there.columns, back.columns))

pub returns-then-dy-ne0-clause-other : goal.returns-then-dy-ne0-clause-other
returns-then-dy-ne0-clause-other c = λ none x y u v there back. absurd (omega (arith, ints, there.rows, back.rows))
