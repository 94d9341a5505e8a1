use Rattle.std.proofs.Common.{◌≡◌, ℕ, true, [], ◌∷◌, map, ap, sym, arith, rules, ◌∙◌}
use Rattle.std.proofs.lemmas.Result.{IfOk-weaker}
use Rattle.mw_model.specs.Flat.{least, under}
use Rattle.mw_model.specs.Pictures.{Picture, sample}
use Rattle.mw_model.specs.Plans.{plane_of}
use Rattle.mw_model.specs.PlanSteps.{ErodeBox}
use Rattle.mw_model.specs.Rectangles.{box_offsets}
use Rattle.mw_model.specs.Tasks.{cells_in}
use Rattle.mw_model.specs.Windows.{seen_at}
use Rattle.mw_c_lent.specs.Boxes.{IsMadeUnder}
use Rattle.mw_c_lent.specs.InPlace.{IsWholeView}
use Rattle.mw_c_lent.specs.Rows.{IsStrip}
use Rattle.mw_c_lent.proofs.Steps.{least_box_there}
use Rattle.mw_c_lent.proofs.UnderBoxes.{made_whole}
use Rattle.mw_c_lent.proofs.in_place.put_least.Goals as goal

pub returns-clause-made : goal.returns-clause-made
returns-clause-made g c =
    let level = g.P.Pixel.level in
    let w = c.args.lent.now in
    let box = c.args.offsets in
    let r = c.args.tile in
    let out = c.least_into.new.out in
    let neutral = c.in-Some.neutral in
    IfOk-weaker c.least_into.result (λ done. done ≡ true → IsMadeUnder (least (level neutral)) level (seen_at w) (box_offsets box) r out)
    (λ done. done ≡ true → (f : Picture) → IsWholeView level w f → IsStrip r f → f.maxval ≡ c.args.maxval → map level out ≡ cells_in r (sample (plane_of (ErodeBox box) (f ∷ []) f.width f.height)))
    (λ done made is f whole strip top.
    made_whole (least (level neutral)) level w f (plane_of (ErodeBox box) (f ∷ []) f.width f.height) (box_offsets box) r out whole strip
    (λ x y across down. least_box_there box f x y (least (level neutral) (under f (box_offsets box) x y)) across down (ap (λ (t : ℕ). least t (under f (box_offsets box) x y)) (c.in-Some.ensures.level ∙ sym top))) (made is))
    c.least_into.ensures.made

pub returns-clause-taken : goal.returns-clause-taken
returns-clause-taken g c = λ fits around stands. c.least_into.ensures.taken around stands

pub returns-in_default-clause-taken : goal.returns-in_default-clause-taken
returns-in_default-clause-taken g c = λ fits around stands.
    let yes = c.in_default.ensures.fits.1 (omega (arith, fits)) in
    search rules
