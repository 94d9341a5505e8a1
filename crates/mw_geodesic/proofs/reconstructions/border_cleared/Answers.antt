use Rattle.std.proofs.Common.{◌≡◌, ◌∙◌, ap, sym, subst, refl, IfOk}
use Rattle.mw_model.specs.Pictures.{Picture}
use Rattle.mw_model.specs.Flat.{minus}
use Rattle.mw_model.specs.Laws.{SameShape}
use Rattle.mw_geodesic.specs.Geodesics.{reconstruction}
use Rattle.mw_geodesic.proofs.reconstructions.border_cleared.Goals as goal

pub reconstruction-requires : goal.reconstruction-requires
reconstruction-requires c = subst (λ (t : Picture). SameShape t c.args.image.now) (sym c.in_ok-border.ensures) (record { kind = refl; width = refl; height = refl; maxval = refl })

pub returns : goal.returns
returns c =
    let f = c.args.image.now in
    let whole = ap (minus f) (c.in_ok-touching.ensures ∙ ap (reconstruction c.args.around.now f) c.in_ok-border.ensures) in
    subst (λ (t : Picture). IfOk c.minus.result (λ r. r ≡ t)) whole c.minus.ensures
