use Rattle.std.proofs.Common.{arith}
use Rattle.mw_rank_bits.proofs.adding.sum_at_three.Goals as goal

pub returns : goal.returns
returns c = λ q lt. omega (arith, c.three_at-sum.ensures q lt, c.all_or_none.ensures q lt)
