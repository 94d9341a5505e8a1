use Rattle.std.proofs.Common.{ℕ, length, sym, subst}
use Rattle.mw_c_arrays.specs.Sources.{picture_in}
use Rattle.mw_c_layers.specs.Layers.{formula_picture}
use Rattle.mw_c_strips.specs.Rows.{AreRows}
use Rattle.mw_c_strips.proofs.SomeRows.{form_rows}
use Rattle.mw_c_strips.proofs.applying_rows.write_form_rows.Goals as goal
use Rattle.mw_c_strips.proofs.applying_rows.write_form_rows.Goals.{After-formula_of-formula}

-- the formula has the rows that are asked for
formula_rows : (g : _) (c : After-formula_of-formula g) → AreRows c.args.first (length c.args.out.now) (formula_picture c.formula_of-formula.result)
formula_rows g c =
    subst (AreRows c.args.first (length c.args.out.now)) (sym c.formula_of-formula.ensures.picture) (form_rows c.args.form (picture_in c.args.f) c.args.first (length c.args.out.now) c.requires.rows)

pub write_composite_rows-requires-clause-rows : goal.write_composite_rows-requires-clause-rows
write_composite_rows-requires-clause-rows g c = formula_rows g (goal.at.write_composite_rows-requires-clause-rows g c).After-formula_of-formula

pub write_rows-requires-clause-rows : goal.write_rows-requires-clause-rows
write_rows-requires-clause-rows g c =
    subst (λ (n : ℕ). AreRows c.args.first n (formula_picture c.formula_of-formula.result)) (sym c.match-composite_of.auto.out)
    (formula_rows g (goal.at.write_rows-requires-clause-rows g c).After-formula_of-formula)
