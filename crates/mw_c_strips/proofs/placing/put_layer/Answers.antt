use Rattle.std.proofs.Common.{◌≡◌, true, map, subst, sym}
use Rattle.std.specs.Prelude.{IfOk}
use Rattle.mw_model.specs.Pictures.{sample}
use Rattle.mw_model.specs.Tasks.{cells_in}
use Rattle.mw_c_layers.specs.declared.layers.Layer.{Layer}
use Rattle.mw_c_layers.specs.Layers.{layer_picture}
use Rattle.mw_c_strips.proofs.placing.put_layer.Goals as goal

pub returns-in-By-clause-made : goal.returns-in-By-clause-made
returns-in-By-clause-made g c =
    subst (λ (l : Layer). IfOk c.put_by.result (λ done. done ≡ true → map g.P.Pixel.level c.put_by.new.out ≡ cells_in c.args.strip (sample (layer_picture l)))) (sym c.in-By.is) c.put_by.ensures.made
