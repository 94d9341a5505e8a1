use Rattle.std.proofs.Common.{◌≡◌, true, List, [], ◌∷◌, map, ap, sym, subst, ◌∙◌}
use Rattle.std.specs.Arc.{arc_value}
use Rattle.std.proofs.lemmas.Result.{IfOk-weaker}
use Rattle.mw_element.specs.declared.element.Element.{Element}
use Rattle.mw_model.specs.declared.offsets.Offset.{Offset}
use Rattle.mw_model.specs.Pictures.{Picture, sample}
use Rattle.mw_model.specs.Plans.{plane_of}
use Rattle.mw_model.specs.PlanSteps.{Dilate, DilateBox, Erode, ErodeBox}
use Rattle.mw_model.specs.Rasters.{raster}
use Rattle.mw_model.specs.Tasks.{cells_in}
use Rattle.mw_model.specs.Windows.{seen_at}
use Rattle.mw_rank_lent.specs.Middles.{IsMedianAbout}
use Rattle.mw_rank_lent.specs.mw_rank.Ranks.{IsRank}
use Rattle.mw_c_lent.specs.declared.rules.Rule.{Rule}
use Rattle.mw_c_lent.specs.InPlace.{IsWholeView}
use Rattle.mw_c_lent.specs.Rules.{rule_picture}
use Rattle.mw_c_lent.specs.Rows.{IsStrip}
use Rattle.mw_c_lent.proofs.Narrowed.{fits_narrower}
use Rattle.mw_c_lent.proofs.Views.{ranks_whole}
use Rattle.mw_c_lent.specs.Suited.{SuitMedian, SuitPlace, SuitRule, SuitTile}
use Rattle.mw_c_lent.proofs.in_place.put_tile.Goals as goal

pub returns-in-Nth-clause-made : goal.returns-in-Nth-clause-made
returns-in-Nth-clause-made g c =
    let level = g.P.Pixel.level in
    let w = c.args.lent.now in
    let out = c.medians_into.new.out in
    let k = c.in-Nth.k in
    let e = (arc_value c.in-Nth.element.now).offsets in
    let offsets = c.offsets.result.now in
    let r = c.args.tile in
    IfOk-weaker c.medians_into.result (λ done. done ≡ true → IsRank level k (seen_at w) offsets r (raster r.width r.height out))
    (λ done. done ≡ true → (f : Picture) → IsWholeView level w f → IsStrip r f → f.maxval ≡ c.args.maxval → map level out ≡ cells_in r (sample (rule_picture c.args.rule f)))
    (λ done made is f whole strip top.
    let same : offsets ≡ e = c.offsets.ensures.value ∙ ap (λ (x : Element). x.offsets) c.deref.ensures in
    subst (λ (x : Rule). map level out ≡ cells_in r (sample (rule_picture x f))) (sym c.in-Nth.is)
    (ranks_whole level w f offsets e k r out whole strip same (made is)))
    c.medians_into.ensures.over_window

pub returns-in-Least-clause-made : goal.returns-in-Least-clause-made
returns-in-Least-clause-made g c =
    let level = g.P.Pixel.level in
    let w = c.args.lent.now in
    let r = c.args.tile in
    let out = c.put_least_under.new.out in
    IfOk-weaker c.put_least_under.result (λ done. done ≡ true → (f : Picture) → IsWholeView level w f → IsStrip r f → f.maxval ≡ c.args.maxval → map level out ≡ cells_in r (sample (plane_of (Erode c.deref-in-Least.result.now.offsets) (f ∷ []) f.width f.height)))
    (λ done. done ≡ true → (f : Picture) → IsWholeView level w f → IsStrip r f → f.maxval ≡ c.args.maxval → map level out ≡ cells_in r (sample (rule_picture c.args.rule f)))
    (λ done made is f whole strip top.
    made is f whole strip top
    ∙ ap (λ (x : Element). cells_in r (sample (plane_of (Erode x.offsets) (f ∷ []) f.width f.height))) c.deref-in-Least.ensures
    ∙ ap (λ (x : Rule). cells_in r (sample (rule_picture x f))) (sym c.in-Least.is))
    c.put_least_under.ensures.made

pub returns-in-Greatest-clause-made : goal.returns-in-Greatest-clause-made
returns-in-Greatest-clause-made g c =
    let level = g.P.Pixel.level in
    let w = c.args.lent.now in
    let r = c.args.tile in
    let out = c.put_greatest_under.new.out in
    IfOk-weaker c.put_greatest_under.result (λ done. done ≡ true → (f : Picture) → IsWholeView level w f → IsStrip r f → map level out ≡ cells_in r (sample (plane_of (Dilate c.deref-in-Greatest.result.now.offsets) (f ∷ []) f.width f.height)))
    (λ done. done ≡ true → (f : Picture) → IsWholeView level w f → IsStrip r f → f.maxval ≡ c.args.maxval → map level out ≡ cells_in r (sample (rule_picture c.args.rule f)))
    (λ done made is f whole strip top.
    made is f whole strip
    ∙ ap (λ (x : Element). cells_in r (sample (plane_of (Dilate x.offsets) (f ∷ []) f.width f.height))) c.deref-in-Greatest.ensures
    ∙ ap (λ (x : Rule). cells_in r (sample (rule_picture x f))) (sym c.in-Greatest.is))
    c.put_greatest_under.ensures.made

pub returns-in-LeastBox-clause-made : goal.returns-in-LeastBox-clause-made
returns-in-LeastBox-clause-made g c =
    let level = g.P.Pixel.level in
    let w = c.args.lent.now in
    let r = c.args.tile in
    let out = c.put_least.new.out in
    IfOk-weaker c.put_least.result (λ done. done ≡ true → (f : Picture) → IsWholeView level w f → IsStrip r f → f.maxval ≡ c.args.maxval → map level out ≡ cells_in r (sample (plane_of (ErodeBox c.in-LeastBox.offsets) (f ∷ []) f.width f.height)))
    (λ done. done ≡ true → (f : Picture) → IsWholeView level w f → IsStrip r f → f.maxval ≡ c.args.maxval → map level out ≡ cells_in r (sample (rule_picture c.args.rule f)))
    (λ done made is f whole strip top. made is f whole strip top ∙ ap (λ (x : Rule). cells_in r (sample (rule_picture x f))) (sym c.in-LeastBox.is))
    c.put_least.ensures.made

pub returns-in-GreatestBox-clause-made : goal.returns-in-GreatestBox-clause-made
returns-in-GreatestBox-clause-made g c =
    let level = g.P.Pixel.level in
    let w = c.args.lent.now in
    let r = c.args.tile in
    let out = c.put_greatest.new.out in
    IfOk-weaker c.put_greatest.result (λ done. done ≡ true → (f : Picture) → IsWholeView level w f → IsStrip r f → map level out ≡ cells_in r (sample (plane_of (DilateBox c.in-GreatestBox.offsets) (f ∷ []) f.width f.height)))
    (λ done. done ≡ true → (f : Picture) → IsWholeView level w f → IsStrip r f → f.maxval ≡ c.args.maxval → map level out ≡ cells_in r (sample (rule_picture c.args.rule f)))
    (λ done made is f whole strip top. made is f whole strip ∙ ap (λ (x : Rule). cells_in r (sample (rule_picture x f))) (sym c.in-GreatestBox.is))
    c.put_greatest.ensures.made

pub returns-in-Least-clause-taken : goal.returns-in-Least-clause-taken
returns-in-Least-clause-taken g c = λ fits suit.
    c.put_least_under.ensures.taken fits (subst (λ (x : Element). SuitTile x.offsets c.args.tile) (sym c.deref-in-Least.ensures) (subst (λ (x : Rule). SuitRule x c.args.tile) c.in-Least.is suit))

pub returns-in-Greatest-clause-taken : goal.returns-in-Greatest-clause-taken
returns-in-Greatest-clause-taken g c = λ fits suit.
    c.put_greatest_under.ensures.taken (subst (λ (x : Element). SuitTile x.offsets c.args.tile) (sym c.deref-in-Greatest.ensures) (subst (λ (x : Rule). SuitRule x c.args.tile) c.in-Greatest.is suit))

pub returns-in-Nth-clause-taken : goal.returns-in-Nth-clause-taken
returns-in-Nth-clause-taken g c = λ fits suit. absurd (subst (λ (x : Rule). SuitRule x c.args.tile) c.in-Nth.is suit)

pub returns-in-LeastBox-clause-taken : goal.returns-in-LeastBox-clause-taken
returns-in-LeastBox-clause-taken g c = λ fits suit. absurd (subst (λ (x : Rule). SuitRule x c.args.tile) c.in-LeastBox.is suit)

pub returns-in-GreatestBox-clause-taken : goal.returns-in-GreatestBox-clause-taken
returns-in-GreatestBox-clause-taken g c = λ fits suit. absurd (subst (λ (x : Rule). SuitRule x c.args.tile) c.in-GreatestBox.is suit)

pub returns-in-AtLeast-clause-taken : goal.returns-in-AtLeast-clause-taken
returns-in-AtLeast-clause-taken g c = λ fits suit. absurd (subst (λ (x : Rule). SuitRule x c.args.tile) c.in-AtLeast.is suit)

pub returns-in-Least-clause-lent : goal.returns-in-Least-clause-lent
returns-in-Least-clause-lent g c = λ fits suit.
    c.put_least_under.ensures.taken fits (subst (λ (x : Element). SuitTile x.offsets c.args.tile) (sym c.deref-in-Least.ensures) (subst (λ (x : Rule). SuitPlace c.args.lent.now.place x c.args.tile) c.in-Least.is suit))

pub returns-in-Greatest-clause-lent : goal.returns-in-Greatest-clause-lent
returns-in-Greatest-clause-lent g c = λ fits suit.
    c.put_greatest_under.ensures.taken (subst (λ (x : Element). SuitTile x.offsets c.args.tile) (sym c.deref-in-Greatest.ensures) (subst (λ (x : Rule). SuitPlace c.args.lent.now.place x c.args.tile) c.in-Greatest.is suit))

pub returns-in-LeastBox-clause-lent : goal.returns-in-LeastBox-clause-lent
returns-in-LeastBox-clause-lent g c = λ fits suit.
    let is = subst (λ (x : Rule). SuitPlace c.args.lent.now.place x c.args.tile) c.in-LeastBox.is suit in
    c.put_least.ensures.taken fits is.0 is.1

pub returns-in-GreatestBox-clause-lent : goal.returns-in-GreatestBox-clause-lent
returns-in-GreatestBox-clause-lent g c = λ fits suit.
    let is = subst (λ (x : Rule). SuitPlace c.args.lent.now.place x c.args.tile) c.in-GreatestBox.is suit in
    c.put_greatest.ensures.taken is.0 is.1

pub returns-in-Nth-clause-lent : goal.returns-in-Nth-clause-lent
returns-in-Nth-clause-lent g c = λ fits suit.
    let place = c.args.lent.now.place in
    let r = c.args.tile in
    let k = c.in-Nth.k in
    let same : c.offsets.result.now ≡ (arc_value c.in-Nth.element.now).offsets = c.offsets.ensures.value ∙ ap (λ (x : Element). x.offsets) c.deref.ensures in
    let is : SuitMedian k (arc_value c.in-Nth.element.now).offsets place r = subst (λ (x : Rule). SuitPlace place x r) c.in-Nth.is suit in
    c.medians_into.ensures.taken is.reach
    (subst (λ (t : List Offset). IsMedianAbout is.reach k t) (sym same) is.median)
    (fits_narrower 16 g.P.Vectored.WIDTH is.reach place r g.met.P.Vectored.is_narrow is.fits)

pub returns-in-AtLeast-clause-lent : goal.returns-in-AtLeast-clause-lent
returns-in-AtLeast-clause-lent g c = λ fits suit. absurd (subst (λ (x : Rule). SuitPlace c.args.lent.now.place x c.args.tile) c.in-AtLeast.is suit)
