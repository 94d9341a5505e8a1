use Rattle.std.proofs.Common.{arith}
use Rattle.std.proofs.lemmas.Int.{ints}
use Rattle.mw_c_geodesic.proofs.alike.is_origin.Goals as goal

pub returns : goal.returns
returns c = λ same x y u v joins. (omega (arith, ints, joins.columns), omega (arith, ints, joins.rows))
