use Rattle.std.proofs.Common.{ℕ, ap, refl}
use Rattle.mw_rank_medians.specs.declared.five.Two.{Two}
use Rattle.mw_rank_medians.proofs.five.middle_of_three.Goals as goal

pub returns : goal.returns
returns g c = λ i. rw (c.higher-low.ensures i, c.lower-high.ensures i, c.exchanged-even.ensures.low i, c.exchanged-even.ensures.high i, ap (λ (r : Two ℕ). r.low) (c.middle_of_two-odd.ensures i), ap (λ (r : Two ℕ). r.high) (c.middle_of_two-odd.ensures i)) refl
