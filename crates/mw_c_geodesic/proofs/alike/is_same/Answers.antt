use Rattle.std.proofs.Common.{arith}
use Rattle.std.proofs.lemmas.Int.{ints}
use Rattle.mw_c_geodesic.proofs.alike.is_same.Goals as goal

pub returns : goal.returns
returns c = λ same x y u v joins. record { columns = omega (arith, ints, joins.columns); rows = omega (arith, ints, joins.rows) }
