use Rattle.std.proofs.Common.{◌≡◌, ℕ, true, List, [], ◌∷◌, map, refl, ap, sym, subst, arith, rules, ◌∙◌}
use Rattle.std.specs.Prelude.{IfOk}
use Rattle.mw_model.specs.declared.offsets.Offset.{Offset}
use Rattle.std.proofs.lemmas.Result.{IfOk-weaker}
use Rattle.mw_model.specs.Flat.{least, under}
use Rattle.mw_model.specs.Pictures.{Picture, sample}
use Rattle.mw_model.specs.Plans.{plane_of}
use Rattle.mw_model.specs.PlanSteps.{Erode}
use Rattle.mw_model.specs.Tasks.{cells_in}
use Rattle.mw_model.specs.Windows.{seen_at}
use Rattle.mw_c_lent.specs.Boxes.{IsMadeUnder}
use Rattle.mw_c_lent.specs.InPlace.{IsWholeView}
use Rattle.mw_c_lent.specs.Rows.{IsStrip}
use Rattle.mw_c_lent.proofs.Steps.{least_there}
use Rattle.mw_c_lent.proofs.UnderBoxes.{made_whole}
use Rattle.mw_c_lent.specs.Suited.{SuitTile}
use Rattle.mw_c_lent.proofs.in_place.put_least_under.Goals as goal

pub returns-clause-made : goal.returns-clause-made
returns-clause-made g c =
    let level = g.P.Pixel.level in
    let w = c.args.lent.now in
    let e = c.args.element.now.offsets in
    let r = c.args.tile in
    let out = c.least_under.new.out in
    let neutral = c.in-Some.neutral in
    IfOk-weaker c.least_under.result (λ done. done ≡ true → IsMadeUnder (least (level neutral)) level (seen_at w) e r out)
    (λ done. done ≡ true → (f : Picture) → IsWholeView level w f → IsStrip r f → f.maxval ≡ c.args.maxval → map level out ≡ cells_in r (sample (plane_of (Erode e) (f ∷ []) f.width f.height)))
    (λ done made is f whole strip top.
    made_whole (least (level neutral)) level w f (plane_of (Erode e) (f ∷ []) f.width f.height) e r out whole strip
    (λ x y across down. least_there e e f x y (least (level neutral) (under f e x y)) across down refl (ap (λ (t : ℕ). least t (under f e x y)) (c.in-Some.ensures.level ∙ sym top))) (made is))
    (subst (λ (t : List Offset). IfOk c.least_under.result (λ done. done ≡ true → IsMadeUnder (least (level neutral)) level (seen_at w) t r out)) c.offsets.ensures.value c.least_under.ensures.made)

pub returns-clause-taken : goal.returns-clause-taken
returns-clause-taken g c = λ fits suit. c.least_under.ensures.taken (subst (λ (t : List Offset). SuitTile t c.args.tile) (sym c.offsets.ensures.value) suit)

pub returns-in_default-clause-taken : goal.returns-in_default-clause-taken
returns-in_default-clause-taken g c = λ fits suit.
    let yes = c.in_default.ensures.fits.1 (omega (arith, fits)) in
    search rules
