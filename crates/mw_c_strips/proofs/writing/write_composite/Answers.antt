use Rattle.std.proofs.Common.{◌≡◌, true, length, map, ◌∙◌}
use Rattle.std.proofs.lemmas.Result.{IfOk-weaker}
use Rattle.mw_c_layers.specs.Layers.{formula_picture}
use Rattle.mw_c_strips.specs.Rows.{rows_from}
use Rattle.mw_c_layers.proofs.Formulas.{formula_is_picture, formula_sides}
use Rattle.mw_c_strips.proofs.SomeRows.{all_from_first, all_rows}
use Rattle.mw_c_strips.proofs.writing.write_composite.Goals as goal

pub write_composite_rows-requires : goal.write_composite_rows-requires
write_composite_rows-requires g c = record {
  image = c.requires.image;
  sound = c.requires.sound;
  same = c.requires.same;
  rows = all_rows (length c.args.out.now) (formula_picture c.args.formula) (formula_sides c.args.formula c.requires.sound) c.requires.size;
  stands = c.requires.stands;
}

pub returns-clause-made : goal.returns-clause-made
returns-clause-made g c =
    let f = formula_picture c.args.formula in
    let out = c.write_composite_rows.new.out in
    let count = length c.args.out.now in
    IfOk-weaker c.write_composite_rows.result (λ done. done ≡ true → map g.P.Pixel.level out ≡ rows_from 0 count f) (λ done. done ≡ true → map g.P.Pixel.level out ≡ f.samples)
    (λ _ is yes. is yes ∙ all_from_first count f (formula_is_picture c.args.formula c.requires.sound).size c.requires.size) c.write_composite_rows.ensures.made
