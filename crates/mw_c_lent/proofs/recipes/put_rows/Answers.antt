use Rattle.std.proofs.Common.{ℕ, ◌+◌, ◌-◌, ◌*◌, ◌≤◌, min, length, sym, subst, ap, arith, ◌∙◌}
use Rattle.mw_model.specs.Pictures.{sample}
use Rattle.mw_model.specs.Tasks.{cells_in}
use Rattle.mw_c_lent.specs.declared.recipes.Recipe.{Recipe}
use Rattle.mw_c_lent.specs.Recipes.{IsRecipe, made_first, recipe_picture, rows_beyond}
use Rattle.mw_c_lent.specs.Slides.{slide_picture}
use Rattle.mw_c_lent.specs.Standing.{HasRowsAround}
use Rattle.mw_c_lent.proofs.Slid.{room_for}
use Rattle.mw_c_lent.proofs.Stood.{rows_at}
use Rattle.mw_c_lent.proofs.recipes.put_rows.Goals as goal

pub put_second-requires-clause-sound : goal.put_second-requires-clause-sound
put_second-requires-clause-sound g c = subst IsRecipe c.in-Filter.is c.requires.sound

pub put_second-requires-clause-between : goal.put_second-requires-clause-between
put_second-requires-clause-between g c = subst (λ (r : Recipe). min (c.args.strip.height + rows_beyond r) c.args.lent.now.frame_height * c.args.strip.width ≤ length c.args.between.now) c.in-Filter.is c.requires.between

pub put_second-requires-clause-stands : goal.put_second-requires-clause-stands
put_second-requires-clause-stands g c = subst (λ (r : Recipe). HasRowsAround g.P.Pixel.level c.args.lent.now (made_first r).slide (made_first r).reach (g.P.Pixel.level c.args.order.top) c.args.strip c.args.between.now) c.in-Filter.is c.requires.stands

pub returns-in-Filter-clause-made : goal.returns-in-Filter-clause-made
returns-in-Filter-clause-made g c = λ f whole top.
    c.put_second.ensures.made f whole top ∙ ap (λ (r : Recipe). cells_in c.args.strip (sample (recipe_picture r f))) (sym c.in-Filter.is)

pub put_taken-requires-clause-sound : goal.put_taken-requires-clause-sound
put_taken-requires-clause-sound g c = subst IsRecipe c.in-Taken.is c.requires.sound

pub put_taken-requires-clause-between : goal.put_taken-requires-clause-between
put_taken-requires-clause-between g c = subst (λ (r : Recipe). min (c.args.strip.height + rows_beyond r) c.args.lent.now.frame_height * c.args.strip.width ≤ length c.args.between.now) c.in-Taken.is c.requires.between

pub put_taken-requires-clause-stands : goal.put_taken-requires-clause-stands
put_taken-requires-clause-stands g c = subst (λ (r : Recipe). HasRowsAround g.P.Pixel.level c.args.lent.now (made_first r).slide (made_first r).reach (g.P.Pixel.level c.args.order.top) c.args.strip c.args.between.now) c.in-Taken.is c.requires.stands

pub returns-in-Taken-clause-made : goal.returns-in-Taken-clause-made
returns-in-Taken-clause-made g c = λ f whole top.
    c.put_taken.ensures.made f whole top ∙ ap (λ (r : Recipe). cells_in c.args.strip (sample (recipe_picture r f))) (sym c.in-Taken.is)

pub put_added-requires-clause-sound : goal.put_added-requires-clause-sound
put_added-requires-clause-sound g c = subst IsRecipe c.in-Added.is c.requires.sound

pub put_added-requires-clause-between : goal.put_added-requires-clause-between
put_added-requires-clause-between g c = subst (λ (r : Recipe). min (c.args.strip.height + rows_beyond r) c.args.lent.now.frame_height * c.args.strip.width ≤ length c.args.between.now) c.in-Added.is c.requires.between

pub put_added-requires-clause-stands : goal.put_added-requires-clause-stands
put_added-requires-clause-stands g c = subst (λ (r : Recipe). HasRowsAround g.P.Pixel.level c.args.lent.now (made_first r).slide (made_first r).reach (g.P.Pixel.level c.args.order.top) c.args.strip c.args.between.now) c.in-Added.is c.requires.stands

pub returns-in-Added-clause-made : goal.returns-in-Added-clause-made
returns-in-Added-clause-made g c = λ f whole top.
    c.put_added.ensures.made f whole top ∙ ap (λ (r : Recipe). cells_in c.args.strip (sample (recipe_picture r f))) (sym c.in-Added.is)

pub put_less-requires-clause-upper : goal.put_less-requires-clause-upper
put_less-requires-clause-upper g c = (subst IsRecipe c.in-Less.is c.requires.sound).0

pub put_less-requires-clause-between : goal.put_less-requires-clause-between
put_less-requires-clause-between g c =
    let strip = c.args.strip in
    let most : ℕ = min (strip.height + 0) c.args.lent.now.frame_height in
    let low = c.requires.strip.low in
    let room : most * strip.width ≤ length c.args.between.now = subst (λ (r : Recipe). min (c.args.strip.height + rows_beyond r) c.args.lent.now.frame_height * c.args.strip.width ≤ length c.args.between.now) c.in-Less.is c.requires.between in
    room_for strip.height most strip.width (length c.args.between.now) (omega (arith, low)) room

pub put_less-requires-clause-stands : goal.put_less-requires-clause-stands
put_less-requires-clause-stands g c = λ f whole top.
    let level = g.P.Pixel.level in
    let w = c.args.lent.now in
    let strip = c.args.strip in
    let lower = c.in-Less.lower in
    let low = c.requires.strip.low in
    let seen : HasRowsAround level w lower (record { left = 0; right = 0; up = 0; down = 0 }) (level c.args.order.top) strip c.args.between.now = subst (λ (r : Recipe). HasRowsAround level w (made_first r).slide (made_first r).reach (level c.args.order.top) strip c.args.between.now) c.in-Less.is c.requires.stands in
    rows_at level (slide_picture lower f) (strip.y - 0) (min (strip.y + strip.height + 0) w.frame_height) strip.y (strip.y + strip.height) c.args.between.now (omega arith) (omega (arith, low)) (seen f whole top)

pub returns-in-Less-clause-made : goal.returns-in-Less-clause-made
returns-in-Less-clause-made g c = λ f whole top.
    c.put_less.ensures.made f whole top ∙ ap (λ (r : Recipe). cells_in c.args.strip (sample (recipe_picture r f))) (sym c.in-Less.is)
