use Rattle.std.proofs.Common.{refl}
use Rattle.mw_rank_medians.proofs.five.with_two.Goals as goal

pub returns : goal.returns
returns g c = λ i. rw (c.exchanged-middle.ensures.low i, c.exchanged-middle.ensures.high i, c.exchanged-odd.ensures.low i, c.exchanged-odd.ensures.high i, c.exchanged-even.ensures.low i, c.exchanged-even.ensures.high i) refl
