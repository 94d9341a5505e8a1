use Rattle.std.proofs.Common.{ap, sym, ◌∙◌}
use Rattle.mw_c_lent.specs.Recipes.{made_first}
use Rattle.mw_c_lent.proofs.recipes.made_first.Goals as goal

pub returns-in-Filter : goal.returns-in-Filter
returns-in-Filter c = c.first_step.ensures ∙ ap made_first (sym c.in-Filter.is)

pub returns-in-Taken : goal.returns-in-Taken
returns-in-Taken c = c.first_step-in-Taken.ensures ∙ ap made_first (sym c.in-Taken.is)

pub returns-in-Added : goal.returns-in-Added
returns-in-Added c = c.first_step-in-Added.ensures ∙ ap made_first (sym c.in-Added.is)

pub returns-in-Less : goal.returns-in-Less
returns-in-Less c = ap made_first (sym c.in-Less.is)
