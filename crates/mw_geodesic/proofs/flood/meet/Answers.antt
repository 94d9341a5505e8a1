use Rattle.std.proofs.Common.{◌≡◌, ◌∙◌, ◌-◌, min, ap, subst, arith, IfOk}
use Rattle.mw_model.specs.Pictures.{Picture, sample}
use Rattle.mw_model.specs.Flat.{minus}
use Rattle.mw_model.proofs.ImagePlaces.{drawn_same, sample-redrawn}
use Rattle.mw_geodesic.specs.Geodesics.{meet}
use Rattle.mw_geodesic.proofs.flood.meet.Goals as goal

pub returns : goal.returns
returns c =
    let f = c.args.marker.now in
    let g = c.args.mask.now in
    let same : minus f (minus f g) ≡ meet f g =
    drawn_same f.kind f.width f.height f.maxval (λ x y. sample f x y - sample (minus f g) x y) (λ x y. min (sample f x y) (sample g x y))
    (λ x y p q. let over = sample-redrawn f (λ x y. sample f x y - sample g x y) x y p q in omega arith) in
    let both : minus f c.in_ok-over.over ≡ meet f g = ap (λ (t : Picture). minus f t) c.in_ok-over.ensures ∙ same in
    subst (λ (t : Picture). IfOk c.minus-2.result (λ r. r ≡ t)) both c.minus-2.ensures
