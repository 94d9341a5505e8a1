use Rattle.std.proofs.Common.{◌≡◌, ap, arith, sym, ◌∙◌}
use Rattle.mw_c_layers.specs.declared.origins.Origin.{Origin}
use Rattle.mw_c_layers.specs.Origins.{origin_picture}
use Rattle.mw_c_layers.specs.Layers.{formula_picture}
use Rattle.mw_c_layers.proofs.Formulas.{formula_frame, formula_sides}
use Rattle.mw_c_strips.proofs.SomeRows.{rows_end}
use Rattle.mw_c_strips.proofs.writing.end_of.Goals as goal

pub nonzero_div-rows : goal.nonzero_div-rows
nonzero_div-rows c =
    let wide : c.width-width.result ≡ (formula_picture c.args.formula).width = c.width-width.ensures ∙ ap (λ (s : Origin). (origin_picture s).width) c.first_origin-f.ensures ∙ sym (formula_frame c.args.formula).0 in
    omega (arith, wide, (formula_sides c.args.formula c.requires.sound).wide.0)

pub overflow_cast-result : goal.overflow_cast-result
overflow_cast-result c =
    let f = formula_picture c.args.formula in
    let wide : c.width-width.result ≡ f.width = c.width-width.ensures ∙ ap (λ (s : Origin). (origin_picture s).width) c.first_origin-f.ensures ∙ sym (formula_frame c.args.formula).0 in
    let sides = formula_sides c.args.formula c.requires.sound in
    let ends = rows_end c.args.first c.args.count c.width-width.result f sides.wide.0 wide c.requires.rows in
    omega (arith, ends.within, sides.high.1)

pub overflow_add-result : goal.overflow_add-result
overflow_add-result c =
    let f = formula_picture c.args.formula in
    let wide : c.width-width.result ≡ f.width = c.width-width.ensures ∙ ap (λ (s : Origin). (origin_picture s).width) c.first_origin-f.ensures ∙ sym (formula_frame c.args.formula).0 in
    let sides = formula_sides c.args.formula c.requires.sound in
    let ends = rows_end c.args.first c.args.count c.width-width.result f sides.wide.0 wide c.requires.rows in
    omega (arith, ends.within, sides.high.1)

pub returns : goal.returns
returns c =
    let f = formula_picture c.args.formula in
    let wide : c.width-width.result ≡ f.width = c.width-width.ensures ∙ ap (λ (s : Origin). (origin_picture s).width) c.first_origin-f.ensures ∙ sym (formula_frame c.args.formula).0 in
    let sides = formula_sides c.args.formula c.requires.sound in
    rows_end c.args.first c.args.count c.width-width.result f sides.wide.0 wide c.requires.rows
