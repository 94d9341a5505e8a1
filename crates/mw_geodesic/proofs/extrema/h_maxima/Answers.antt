use Rattle.std.proofs.Common.{◌≡◌, ap, sym, subst, refl, IfOk}
use Rattle.mw_model.specs.Pictures.{Picture}
use Rattle.mw_model.specs.Laws.{SameShape}
use Rattle.mw_geodesic.specs.Geodesics.{reconstruction}
use Rattle.mw_geodesic.proofs.extrema.h_maxima.Goals as goal

pub reconstruction-requires : goal.reconstruction-requires
reconstruction-requires c = subst (λ (t : Picture). SameShape t c.args.image.now) (sym c.in_ok-marker.ensures) (record { kind = refl; width = refl; height = refl; maxval = refl })

pub returns : goal.returns
returns c =
    let whole = ap (reconstruction c.args.around.now c.args.image.now) c.in_ok-marker.ensures in
    subst (λ (t : Picture). IfOk c.reconstruction.result (λ r. r ≡ t)) whole c.reconstruction.ensures
