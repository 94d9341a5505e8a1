use Rattle.std.proofs.Common.{◌≡◌, true, map, ap, ◌∙◌}
use Rattle.std.proofs.lemmas.Result.{IfOk-weaker}
use Rattle.mw_model.specs.Flat.{minus}
use Rattle.mw_model.specs.Pictures.{Picture}
use Rattle.mw_c_arrays.specs.Sources.{picture_in}
use Rattle.mw_c_lent.specs.declared.recipes.Recipe.TheVariants as recipe
use Rattle.mw_c_lent.specs.Recipes.{AreTwoSteps, FitsStrips, recipe_picture, rows_beyond}
use Rattle.mw_c_lent.specs.Rules.{rule_picture}
use Rattle.mw_c_lent.proofs.Narrowed.{fits_fewer, rule_more}
use Rattle.mw_c_lent.proofs.filters.put_what_is_added.Goals as goal

pub returns-clause-made : goal.returns-clause-made
returns-clause-made g c =
    let level = g.P.Pixel.level in
    let f = picture_in c.args.f in
    let steps = c.in-Some.steps in
    let out = c.put_recipe.new.out in
    IfOk-weaker c.put_recipe.result (λ done. done ≡ true → map level out ≡ (recipe_picture (recipe.Added steps) f).samples)
    (λ done. done ≡ true → map level out ≡ (minus (rule_picture c.args.second (rule_picture c.args.first f)) f).samples)
    (λ done made is. made is ∙ ap (λ (p : Picture). (minus (p) f).samples) (c.in-Some.ensures.picture f))
    c.put_recipe.ensures.made

pub returns-clause-near : goal.returns-clause-near
returns-clause-near g c =
    let top = g.P.Pixel.top_level in
    let steps = c.in-Some.steps in
    let beyond = rows_beyond (recipe.Added steps) in
    IfOk-weaker c.put_recipe.result (λ done. FitsStrips top beyond c.args.f → done ≡ true) (λ done. AreTwoSteps top c.args.first c.args.second c.args.f → done ≡ true)
    (λ done fits two. fits (fits_fewer top beyond two.beyond c.args.f (c.in-Some.ensures.low two.beyond two.second_is) two.image))
    c.put_recipe.ensures.fits

pub returns-in_default-clause-near : goal.returns-in_default-clause-near
returns-in_default-clause-near g c = λ two. absurd (c.in_default.ensures.none two.first_is (rule_more two.beyond 255 c.args.second two.low two.second_is))
