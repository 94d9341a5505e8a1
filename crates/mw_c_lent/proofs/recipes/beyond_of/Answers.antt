use Rattle.std.proofs.Common.{◌+◌, ap, arith}
use Rattle.mw_c_lent.specs.declared.standing.First.{First}
use Rattle.mw_c_lent.proofs.Stood.{first_near}
use Rattle.mw_c_lent.proofs.recipes.beyond_of.Goals as goal

pub overflow_add-beyond : goal.overflow_add-beyond
overflow_add-beyond c = omega (arith, first_near c.args.recipe c.requires, ap (λ (p : First). p.reach.up + p.reach.down) c.made_first-first.ensures)

pub returns-clause-value : goal.returns-clause-value
returns-clause-value c = ap (λ (p : First). p.reach.up + p.reach.down) c.made_first-first.ensures

pub returns-clause-few : goal.returns-clause-few
returns-clause-few c = omega (arith, first_near c.args.recipe c.requires, ap (λ (p : First). p.reach.up + p.reach.down) c.made_first-first.ensures)
