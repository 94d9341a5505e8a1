use Rattle.std.proofs.Common.{◌≡◌, true, map, sym, subst}
use Rattle.std.specs.Prelude.{IfOk}
use Rattle.mw_model.specs.Pictures.{sample}
use Rattle.mw_model.specs.Tasks.{cells_in}
use Rattle.mw_c_layers.specs.declared.layers.Formula.{Formula}
use Rattle.mw_c_layers.specs.Layers.{formula_picture}
use Rattle.mw_c_strips.proofs.placing.put_in_place.Goals as goal

pub returns-in-Less-clause-made : goal.returns-in-Less-clause-made
returns-in-Less-clause-made g c =
    subst (λ (x : Formula). IfOk c.put_difference.result (λ done. done ≡ true → map g.P.Pixel.level c.put_difference.new.out ≡ cells_in c.args.strip (sample (formula_picture x)))) (sym c.in-Less.is) c.put_difference.ensures.made
