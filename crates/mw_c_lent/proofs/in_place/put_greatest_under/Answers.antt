use Rattle.std.proofs.Common.{◌≡◌, true, List, [], ◌∷◌, map, refl, sym, subst}
use Rattle.std.specs.Prelude.{IfOk}
use Rattle.mw_model.specs.declared.offsets.Offset.{Offset}
use Rattle.std.proofs.lemmas.Result.{IfOk-weaker}
use Rattle.mw_model.specs.Flat.{greatest, under}
use Rattle.mw_model.specs.Pictures.{Picture, sample}
use Rattle.mw_model.specs.Plans.{plane_of}
use Rattle.mw_model.specs.PlanSteps.{Dilate}
use Rattle.mw_model.specs.Tasks.{cells_in}
use Rattle.mw_model.specs.Windows.{seen_at}
use Rattle.mw_c_lent.specs.Boxes.{IsMadeUnder}
use Rattle.mw_c_lent.specs.InPlace.{IsWholeView}
use Rattle.mw_c_lent.specs.Rows.{IsStrip}
use Rattle.mw_c_lent.proofs.Steps.{greatest_there}
use Rattle.mw_c_lent.proofs.UnderBoxes.{made_whole}
use Rattle.mw_c_lent.specs.Suited.{SuitTile}
use Rattle.mw_c_lent.proofs.in_place.put_greatest_under.Goals as goal

pub returns-clause-made : goal.returns-clause-made
returns-clause-made g c =
    let level = g.P.Pixel.level in
    let w = c.args.lent.now in
    let e = c.args.element.now.offsets in
    let r = c.args.tile in
    let out = c.greatest_under.new.out in
    IfOk-weaker c.greatest_under.result (λ done. done ≡ true → IsMadeUnder greatest level (seen_at w) e r out)
    (λ done. done ≡ true → (f : Picture) → IsWholeView level w f → IsStrip r f → map level out ≡ cells_in r (sample (plane_of (Dilate e) (f ∷ []) f.width f.height)))
    (λ done made is f whole strip. made_whole greatest level w f (plane_of (Dilate e) (f ∷ []) f.width f.height) e r out whole strip (λ x y across down. greatest_there e e f x y (greatest (under f e x y)) across down refl refl) (made is))
    (subst (λ (t : List Offset). IfOk c.greatest_under.result (λ done. done ≡ true → IsMadeUnder greatest level (seen_at w) t r out)) c.offsets.ensures.value c.greatest_under.ensures.made)

pub returns-clause-taken : goal.returns-clause-taken
returns-clause-taken g c = λ suit. c.greatest_under.ensures.taken (subst (λ (t : List Offset). SuitTile t c.args.tile) (sym c.offsets.ensures.value) suit)
