use Rattle.std.proofs.Common.{refl}
use Rattle.mw_rank_medians.proofs.five.with_last.Goals as goal

pub returns : goal.returns
returns g c = λ i. rw (c.lower-2.ensures i, c.lower.ensures i, c.lower-front.ensures i, c.lower-middle.ensures i, c.lower-back.ensures i, c.higher-first.ensures i, c.higher-second.ensures i, c.higher-third.ensures i, c.higher-fourth.ensures i, c.higher-fifth.ensures i) refl
