use Rattle.std.proofs.Common.{arith}
use Rattle.std.proofs.lemmas.Int.{ints}
use Rattle.mw_plan.proofs.sliding.turned.Goals as goal

pub returns-clause-near : goal.returns-clause-near
returns-clause-near c = record {
  left = omega (arith, ints);
  right = omega (arith, ints);
  top = omega (arith, ints);
  bottom = omega (arith, ints);
  wide = omega (arith, ints);
  high = omega (arith, ints);
}
