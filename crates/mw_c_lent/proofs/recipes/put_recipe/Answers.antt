use Rattle.std.proofs.Common.{◌≤◌, ◌+◌, ◌*◌, sym, arith, rules, ◌∙◌}
use Rattle.std.proofs.lemmas.Nat.{mul-le}
use Rattle.mw_c_arrays.specs.Sources.{picture_in}
use Rattle.mw_c_arrays.proofs.SourceImages.{source_image}
use Rattle.mw_c_lent.specs.InPlace.{IsWholeView}
use Rattle.mw_c_lent.specs.Recipes.{rows_beyond}
use Rattle.mw_c_lent.proofs.Views.{whole_is}
use Rattle.mw_c_lent.proofs.recipes.put_recipe.Goals as goal

pub overflow_add-rows : goal.overflow_add-rows
overflow_add-rows g c =
    let image = source_image c.args.f c.requires.sound in
    omega (arith, c.in-Some-rows_of_strip.ensures.low, c.height-height.ensures, image.height.1, c.beyond_of-beyond.ensures.few)

pub overflow_mul-held : goal.overflow_mul-held
overflow_mul-held g c =
    let image = source_image c.args.f c.requires.sound in
    omega (arith, mul-le c.min-held.result c.width-width.result 8192 8192 (omega (arith, c.min-held.ensures, c.height-height.ensures, image.height.1)) (omega (arith, c.width-width.ensures, image.width.1)))

pub returns-clause-made : goal.returns-clause-made
returns-clause-made g c = λ yes.
    let level = g.P.Pixel.level in
    let f = picture_in c.args.f in
    let w = c.new-lent.result in
    let image = source_image c.args.f c.requires.sound in
    let whole : IsWholeView level w f =
    whole_is level w f c.width-width.result c.height-height.result c.whole_frame.result c.in-Some.samples.now c.width-width.ensures c.height-height.ensures c.whole_frame.ensures.value c.new-lent.ensures c.in-Some.ensures.samples image.picture.size in
    c.put_all.ensures f whole (sym (c.in-Some-of.ensures.level ∙ c.maxval.ensures))

pub returns-in_default-clause-fits : goal.returns-in_default-clause-fits
returns-in_default-clause-fits g c = λ fits. absurd (c.in_default.ensures.none fits.levels)

pub returns-in_default-of-clause-fits : goal.returns-in_default-of-clause-fits
returns-in_default-of-clause-fits g c = λ fits.
    let yes = c.in_default-of.ensures.fits.1 (omega (arith, fits.maxval, c.maxval.ensures)) in
    search rules

pub returns-in_default-rows_of_strip-clause-fits : goal.returns-in_default-rows_of_strip-clause-fits
returns-in_default-rows_of_strip-clause-fits g c = λ fits.
    let beyond = c.beyond_of-beyond.result in
    let row = c.row_size.result in
    let wide = (picture_in c.args.f).width in
    let short : (5 * beyond + 16) * row ≤ 1703936 =
    omega (arith, mul-le (5 * beyond + 16) row (5 * rows_beyond c.args.recipe + 16) (2 * wide) (omega (arith, c.beyond_of-beyond.ensures.value)) (omega (arith, c.row_size.ensures.small, fits.wide)), fits.few) in
    absurd (c.in_default-rows_of_strip.ensures.fits short)

pub returns-then-width-lt32-clause-fits : goal.returns-then-width-lt32-clause-fits
returns-then-width-lt32-clause-fits g c = λ fits. absurd (omega (arith, fits.wide, c.if-width-lt32.true, c.width-width.ensures))
