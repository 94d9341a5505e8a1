use Rattle.std.proofs.Common.{arith}
use Rattle.mw_rank_bits.proofs.adding.sum_of_three.Goals as goal

pub returns : goal.returns
returns c = λ q lt. omega (arith, c.parity.ensures q lt, c.majority.ensures q lt)
