use Rattle.std.proofs.Common.{ℕ, ap, refl}
use Rattle.mw_rank_medians.specs.declared.five.Two.{Two}
use Rattle.mw_rank_medians.proofs.five.higher_of_five.Goals as goal

pub returns : goal.returns
returns g c = λ i. rw (c.higher-low.ensures i, c.lower-middle.ensures i, c.higher-high.ensures i, ap (λ (r : Two ℕ). r.low) (c.middle_of_three-odd.ensures i), ap (λ (r : Two ℕ). r.high) (c.middle_of_three-odd.ensures i), ap (λ (r : Two ℕ). r.low) (c.middle_of_two-even.ensures i), ap (λ (r : Two ℕ). r.high) (c.middle_of_two-even.ensures i)) refl
