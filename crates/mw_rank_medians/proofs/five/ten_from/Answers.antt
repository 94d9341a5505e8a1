use Rattle.std.proofs.Common.{refl}
use Rattle.mw_rank_medians.proofs.five.ten_from.Goals as goal

pub returns : goal.returns
returns g c = λ i. rw (c.exchanged-second.ensures.low i, c.exchanged-second.ensures.high i, c.exchanged-fourth.ensures.low i, c.exchanged-fourth.ensures.high i, c.exchanged-sixth.ensures.low i, c.exchanged-sixth.ensures.high i, c.exchanged-eighth.ensures.low i, c.exchanged-eighth.ensures.high i) refl
