use Rattle.std.proofs.Common.{◌≡◌, ap, sym, subst, IfOk}
use Rattle.mw_model.specs.Pictures.{Picture}
use Rattle.mw_model.specs.Laws.{SameShape}
use Rattle.mw_model.proofs.Iterated.{eroded_shape}
use Rattle.mw_geodesic.specs.Geodesics.{reconstruction}
use Rattle.mw_geodesic.proofs.reconstructions.opening_by_reconstruction.Goals as goal

pub reconstruction-requires : goal.reconstruction-requires
reconstruction-requires c = subst (λ (t : Picture). SameShape t c.args.image.now) (sym c.in_ok-eroded.ensures) (eroded_shape c.args.element.now c.args.n c.args.image.now)

pub returns : goal.returns
returns c =
    let whole = ap (reconstruction c.args.around.now c.args.image.now) c.in_ok-eroded.ensures in
    subst (λ (t : Picture). IfOk c.reconstruction.result (λ r. r ≡ t)) whole c.reconstruction.ensures
