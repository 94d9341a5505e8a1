use Rattle.std.proofs.Common.{◌≡◌, true, map, ap, rules, ◌∙◌}
use Rattle.std.proofs.lemmas.Result.{IfOk-weaker}
use Rattle.mw_model.specs.Flat.{minus}
use Rattle.mw_model.specs.Pictures.{Picture}
use Rattle.mw_c_arrays.specs.Sources.{picture_in}
use Rattle.mw_c_lent.specs.declared.recipes.Recipe.TheVariants as recipe
use Rattle.mw_c_lent.specs.Recipes.{AreTwoBoxes, FitsStrips, recipe_picture}
use Rattle.mw_c_lent.specs.Rules.{rule_picture}
use Rattle.mw_c_lent.specs.Slides.{slide_picture}
use Rattle.mw_c_lent.proofs.filters.put_difference.Goals as goal

pub returns-clause-made : goal.returns-clause-made
returns-clause-made g c =
    let level = g.P.Pixel.level in
    let f = picture_in c.args.f in
    let upper = c.in-Some.upper in
    let lower = c.in-Some-slide_of.lower in
    let out = c.put_recipe.new.out in
    IfOk-weaker c.put_recipe.result (λ done. done ≡ true → map level out ≡ (recipe_picture (recipe.Less upper lower) f).samples)
    (λ done. done ≡ true → map level out ≡ (minus (rule_picture c.args.upper f) (rule_picture c.args.lower f)).samples)
    (λ done made is.
    made is
    ∙ ap (λ (p : Picture). (minus p (slide_picture lower f)).samples) (c.in-Some.ensures.picture f)
    ∙ ap (λ (p : Picture). (minus (rule_picture c.args.upper f) p).samples) (c.in-Some-slide_of.ensures.picture f))
    c.put_recipe.ensures.made

pub returns-then-branch-clause-made : goal.returns-then-branch-clause-made
returns-then-branch-clause-made g c = λ yes.
    let f = picture_in c.args.f in
    let lower = c.in-Some-slide_of.lower in
    c.in_ok-put_range.ensures.made (search rules)
    ∙ ap (λ (p : Picture). (minus p (slide_picture lower f)).samples) (c.in-Some.ensures.picture f)
    ∙ ap (λ (p : Picture). (minus (rule_picture c.args.upper f) p).samples) (c.in-Some-slide_of.ensures.picture f)

pub returns-clause-near : goal.returns-clause-near
returns-clause-near g c =
    let top = g.P.Pixel.top_level in
    IfOk-weaker c.put_recipe.result (λ done. FitsStrips top 0 c.args.f → done ≡ true) (λ done. AreTwoBoxes top c.args.upper c.args.lower c.args.f → done ≡ true)
    (λ done fits two. fits two.image)
    c.put_recipe.ensures.fits

pub returns-in_default-clause-near : goal.returns-in_default-clause-near
returns-in_default-clause-near g c = λ two. absurd (c.in_default.ensures.none two.upper_is)

pub returns-in_default-slide_of-clause-near : goal.returns-in_default-slide_of-clause-near
returns-in_default-slide_of-clause-near g c = λ two. absurd (c.in_default-slide_of.ensures.none two.lower_is)
