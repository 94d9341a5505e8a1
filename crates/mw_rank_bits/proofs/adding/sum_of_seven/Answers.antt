use Rattle.std.proofs.Common.{arith}
use Rattle.mw_rank_bits.proofs.adding.sum_of_seven.Goals as goal

pub returns : goal.returns
returns c = λ q lt. omega (arith, c.sum_of_three-low.ensures q lt, c.sum_of_three-high.ensures q lt)
