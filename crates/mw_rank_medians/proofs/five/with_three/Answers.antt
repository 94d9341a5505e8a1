use Rattle.std.proofs.Common.{refl}
use Rattle.mw_rank_medians.proofs.five.with_three.Goals as goal

pub returns : goal.returns
returns g c = λ i. rw (c.exchanged-lower.ensures.low i, c.exchanged-lower.ensures.high i, c.exchanged-higher.ensures.low i, c.exchanged-higher.ensures.high i, c.exchanged-odd.ensures.low i, c.exchanged-odd.ensures.high i, c.exchanged-even.ensures.low i, c.exchanged-even.ensures.high i, c.exchanged-ends.ensures.low i, c.exchanged-ends.ensures.high i) refl
