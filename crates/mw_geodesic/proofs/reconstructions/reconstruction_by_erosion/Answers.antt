use Rattle.std.proofs.Common.{◌≡◌, ◌∙◌, ap, sym, subst, IfOk}
use Rattle.mw_model.specs.Pictures.{Picture}
use Rattle.mw_model.specs.Flat.{complement}
use Rattle.mw_model.specs.Laws.{SameShape}
use Rattle.mw_model.proofs.ImagePlaces.{shape_sym}
use Rattle.mw_geodesic.specs.Geodesics.{reconstruction, reconstruction_by_erosion}
use Rattle.mw_geodesic.proofs.Complements.{complements_shape}
use Rattle.mw_geodesic.proofs.Duality.{dual}
use Rattle.mw_geodesic.proofs.reconstructions.reconstruction_by_erosion.Goals as goal

pub reconstruction-requires : goal.reconstruction-requires
reconstruction-requires c =
    subst (λ (t : Picture). SameShape t c.in_ok-within.within) (sym c.in_ok-below.ensures)
    (subst (λ (t : Picture). SameShape (complement c.args.marker.now) t) (sym c.in_ok-within.ensures) (complements_shape c.args.marker.now c.args.mask.now c.requires))

pub returns : goal.returns
returns c =
    let e = c.args.element.now in
    let f = c.args.marker.now in
    let g = c.args.mask.now in
    let rebuilt : c.in_ok-rebuilt.rebuilt ≡ reconstruction e (complement g) (complement f) =
    c.in_ok-rebuilt.ensures ∙ ap (λ (t : Picture). reconstruction e t c.in_ok-below.below) c.in_ok-within.ensures ∙ ap (reconstruction e (complement g)) c.in_ok-below.ensures in
    let whole : complement c.in_ok-rebuilt.rebuilt ≡ reconstruction_by_erosion e g f =
    ap complement rebuilt ∙ sym (dual e g f c.is_small.ensures.picture c.is_small-2.ensures.picture (shape_sym c.requires)) in
    subst (λ (t : Picture). IfOk c.complement-3.result (λ r. r ≡ t)) whole c.complement-3.ensures
