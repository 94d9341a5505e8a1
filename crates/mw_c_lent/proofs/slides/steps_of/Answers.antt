use Rattle.std.proofs.Common.{sym, subst}
use Rattle.mw_model.specs.declared.offsets.OffsetBox.{OffsetBox}
use Rattle.mw_c_lent.specs.Narrow.{IsNarrow}
use Rattle.mw_c_lent.proofs.slides.steps_of.Goals as goal

pub returns-in_default-clause-none : goal.returns-in_default-clause-none
returns-in_default-clause-none c = λ one two. c.in_default.ensures.none one

pub returns-in_default-slide_of-clause-none : goal.returns-in_default-slide_of-clause-none
returns-in_default-slide_of-clause-none c = λ one two. c.in_default-slide_of.ensures.none two

pub returns-clause-low : goal.returns-clause-low
returns-clause-low c = λ beyond narrow.
    c.reach_of-reach.ensures.low beyond (subst (λ (b : OffsetBox). IsNarrow beyond b) (sym c.rectangle.ensures) (c.in-Some-slide_of.ensures.low beyond narrow))
