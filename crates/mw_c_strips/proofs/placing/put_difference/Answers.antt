use Rattle.std.proofs.Common.{◌≡◌, true, map, sym, subst}
use Rattle.std.specs.Prelude.{IfOk}
use Rattle.mw_model.specs.Flat.{minus}
use Rattle.mw_model.specs.Pictures.{sample}
use Rattle.mw_model.specs.Tasks.{cells_in}
use Rattle.mw_c_layers.specs.declared.layers.Layer.{Layer}
use Rattle.mw_c_layers.specs.Layers.{layer_picture}
use Rattle.mw_c_strips.proofs.placing.put_difference.Goals as goal

pub returns-in-Itself-clause-made : goal.returns-in-Itself-clause-made
returns-in-Itself-clause-made g c =
    subst (λ (l : Layer). IfOk c.put_taken.result (λ done. done ≡ true → map g.P.Pixel.level c.put_taken.new.out ≡ cells_in c.args.strip (sample (minus (layer_picture l) (layer_picture c.args.second)))))
    (sym c.in-Itself.is) c.put_taken.ensures.made

pub returns-in-Itself-second : goal.returns-in-Itself-second
returns-in-Itself-second g c = record {
  made =
      subst (λ (l : Layer). IfOk c.put_added.result (λ done. done ≡ true → map g.P.Pixel.level c.put_added.new.out ≡ cells_in c.args.strip (sample (minus (layer_picture c.args.first) (layer_picture l)))))
      (sym c.in-Itself-second.is) c.put_added.ensures.made;
  left_out = c.put_added.ensures.left_out;
  kept = c.put_added.ensures.kept;
}
