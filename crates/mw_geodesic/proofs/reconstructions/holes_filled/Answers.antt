use Rattle.std.proofs.Common.{◌≡◌, ◌∙◌, ap, sym, subst, refl, IfOk, ℕ}
use Rattle.mw_model.specs.Pictures.{Picture}
use Rattle.mw_model.specs.Laws.{SameShape}
use Rattle.mw_geodesic.specs.Geodesics.{reconstruction_by_erosion}
use Rattle.mw_geodesic.specs.Reconstructions.{border_over}
use Rattle.mw_geodesic.proofs.reconstructions.holes_filled.Goals as goal

pub reconstruction_by_erosion-requires : goal.reconstruction_by_erosion-requires
reconstruction_by_erosion-requires c =
    subst (λ (t : Picture). SameShape t c.args.image.now) (sym c.in_ok-border.ensures) (record { kind = refl; width = refl; height = refl; maxval = refl })

pub returns : goal.returns
returns c =
    let f = c.args.image.now in
    let border : c.in_ok-border.border ≡ border_over f.maxval f = c.in_ok-border.ensures ∙ ap (λ (t : ℕ). border_over t f) c.maxval.ensures in
    let whole = ap (reconstruction_by_erosion c.args.around.now f) border in
    subst (λ (t : Picture). IfOk c.reconstruction_by_erosion.result (λ r. r ≡ t)) whole c.reconstruction_by_erosion.ensures
