use Rattle.std.proofs.Common.{ℕ, ap, refl}
use Rattle.mw_rank_medians.specs.declared.five.Four.{Four}
use Rattle.mw_rank_medians.proofs.five.three_merged.Goals as goal

pub returns : goal.returns
returns g c = λ i. rw (c.exchanged-lower.ensures.low i, c.exchanged-lower.ensures.high i, c.exchanged-higher.ensures.low i, c.exchanged-higher.ensures.high i, c.exchanged-even.ensures.low i, c.exchanged-even.ensures.high i, ap (λ (r : Four ℕ). r.first) (c.with_two-odd.ensures i), ap (λ (r : Four ℕ). r.second) (c.with_two-odd.ensures i), ap (λ (r : Four ℕ). r.third) (c.with_two-odd.ensures i), ap (λ (r : Four ℕ). r.fourth) (c.with_two-odd.ensures i)) refl
