use Rattle.std.proofs.Common.{◌≡◌, ◌∙◌, ap, subst}
use Rattle.std.specs.Prelude.{IfOk}
use Rattle.mw_model.specs.Pictures.{Picture}
use Rattle.mw_geodesic.specs.Components.{large_components}
use Rattle.mw_geodesic.proofs.LargeComponents.{opening_of_set}
use Rattle.mw_c_geodesic.proofs.Near.{set_is}
use Rattle.mw_c_geodesic.proofs.area.large_plain.Goals as goal

pub returns : goal.returns
returns c =
    let e = c.args.around.now in
    subst (λ (t : Picture). IfOk c.image_made.result (λ g. g ≡ t))
    (c.in_ok-made.ensures ∙ opening_of_set e c.args.least c.in_ok-set.set (set_is c.args.f c.in_ok-set.set c.requires.image c.in_ok-set.ensures) ∙ ap (large_components e c.args.least) c.in_ok-set.ensures)
    c.image_made.ensures
