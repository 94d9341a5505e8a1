use Rattle.std.proofs.Common.{refl}
use Rattle.mw_rank_medians.proofs.five.middle_of_two.Goals as goal

pub returns : goal.returns
returns g c = λ i. rw (c.exchanged.ensures.low i, c.exchanged.ensures.high i, c.higher-lower.ensures i, c.lower-higher.ensures i) refl
