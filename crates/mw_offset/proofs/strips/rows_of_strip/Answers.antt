use Rattle.std.proofs.Common.{arith}
use Rattle.std.proofs.Math.Nat.{div-le_self}
use Rattle.mw_offset.proofs.strips.rows_of_strip.Goals as goal

pub returns-clause-few : goal.returns-clause-few
returns-clause-few c = omega (arith, div-le_self 131072 c.args.width)
