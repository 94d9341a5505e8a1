use Rattle.std.proofs.Common.{◌≡◌, ◌∙◌, ap, sym, subst, IfOk}
use Rattle.mw_model.specs.Pictures.{Picture}
use Rattle.mw_model.specs.Flat.{complement}
use Rattle.mw_geodesic.specs.Reconstructions.{opening_by_reconstruction}
use Rattle.mw_geodesic.proofs.Complements.{closing_dual}
use Rattle.mw_geodesic.proofs.reconstructions.closing_by_reconstruction.Goals as goal

pub returns : goal.returns
returns c =
    let e = c.args.element.now in
    let around = c.args.around.now in
    let n = c.args.n in
    let opened = c.in_ok-opened.ensures ∙ ap (opening_by_reconstruction around e n) c.in_ok-below.ensures in
    let whole = ap complement opened ∙ sym (closing_dual around e n c.args.image.now c.is_small.ensures.picture) in
    subst (λ (t : Picture). IfOk c.complement-2.result (λ r. r ≡ t)) whole c.complement-2.ensures
