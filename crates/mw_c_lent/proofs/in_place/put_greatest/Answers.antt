use Rattle.std.proofs.Common.{◌≡◌, true, [], ◌∷◌, map, refl}
use Rattle.std.proofs.lemmas.Result.{IfOk-weaker}
use Rattle.mw_model.specs.Flat.{greatest, under}
use Rattle.mw_model.specs.Pictures.{Picture, sample}
use Rattle.mw_model.specs.Plans.{plane_of}
use Rattle.mw_model.specs.PlanSteps.{DilateBox}
use Rattle.mw_model.specs.Rectangles.{box_offsets}
use Rattle.mw_model.specs.Tasks.{cells_in}
use Rattle.mw_model.specs.Windows.{seen_at}
use Rattle.mw_c_lent.specs.Boxes.{IsMadeUnder}
use Rattle.mw_c_lent.specs.InPlace.{IsWholeView}
use Rattle.mw_c_lent.specs.Rows.{IsStrip}
use Rattle.mw_c_lent.proofs.Steps.{greatest_box_there}
use Rattle.mw_c_lent.proofs.UnderBoxes.{made_whole}
use Rattle.mw_c_lent.proofs.in_place.put_greatest.Goals as goal

pub returns-clause-made : goal.returns-clause-made
returns-clause-made g c =
    let level = g.P.Pixel.level in
    let w = c.args.lent.now in
    let box = c.args.offsets in
    let r = c.args.tile in
    let out = c.greatest_into.new.out in
    IfOk-weaker c.greatest_into.result (λ done. done ≡ true → IsMadeUnder greatest level (seen_at w) (box_offsets box) r out)
    (λ done. done ≡ true → (f : Picture) → IsWholeView level w f → IsStrip r f → map level out ≡ cells_in r (sample (plane_of (DilateBox box) (f ∷ []) f.width f.height)))
    (λ done made is f whole strip.
    made_whole greatest level w f (plane_of (DilateBox box) (f ∷ []) f.width f.height) (box_offsets box) r out whole strip
    (λ x y across down. greatest_box_there box f x y (greatest (under f (box_offsets box) x y)) across down refl) (made is))
    c.greatest_into.ensures.made
