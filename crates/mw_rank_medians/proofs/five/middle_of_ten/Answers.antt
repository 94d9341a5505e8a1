use Rattle.std.proofs.Common.{ℕ, ap, refl}
use Rattle.mw_rank_medians.specs.declared.nine.Three.{Three}
use Rattle.mw_rank_medians.proofs.five.middle_of_ten.Goals as goal

pub returns : goal.returns
returns g c = λ i. rw (c.exchanged-first.ensures.low i, c.exchanged-first.ensures.high i, c.exchanged-third.ensures.low i, c.exchanged-third.ensures.high i, c.exchanged-fifth.ensures.low i, c.exchanged-fifth.ensures.high i, ap (λ (r : Three ℕ). r.low) (c.higher_of_five-odd.ensures i), ap (λ (r : Three ℕ). r.middle) (c.higher_of_five-odd.ensures i), ap (λ (r : Three ℕ). r.high) (c.higher_of_five-odd.ensures i), ap (λ (r : Three ℕ). r.low) (c.lower_of_five-even.ensures i), ap (λ (r : Three ℕ). r.middle) (c.lower_of_five-even.ensures i), ap (λ (r : Three ℕ). r.high) (c.lower_of_five-even.ensures i)) refl
