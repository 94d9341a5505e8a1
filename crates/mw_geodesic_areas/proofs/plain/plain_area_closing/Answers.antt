use Rattle.std.proofs.Common.{◌≡◌, ◌∙◌, ap, subst}
use Rattle.std.specs.Prelude.{IfOk}
use Rattle.mw_model.specs.Flat.{complement}
use Rattle.mw_model.specs.Pictures.{Picture}
use Rattle.mw_geodesic.specs.Components.{area_opening}
use Rattle.mw_geodesic_areas.proofs.plain.plain_area_closing.Goals as goal

pub returns : goal.returns
returns c =
    let opened = c.in_ok-opened.ensures ∙ ap (area_opening c.args.around.now c.args.least) c.in_ok-turned.ensures in
    subst (λ (t : Picture). IfOk c.complement-2.result (λ r. r ≡ t)) (ap complement opened) c.complement-2.ensures
