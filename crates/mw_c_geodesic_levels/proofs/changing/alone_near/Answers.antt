use Rattle.std.proofs.Common.{◌≡◌, subst, sym}
use Rattle.std.specs.Prelude.{IfOk}
use Rattle.mw_geodesic.specs.Neighbours.{neighbours_of}
use Rattle.mw_geodesic_levels.specs.Pictures.{picture_by}
use Rattle.mw_c_geodesic.specs.Changes.{made_alone}
use Rattle.mw_c_geodesic.specs.declared.changing.Change.{Change}
use Rattle.mw_c_geodesic_levels.proofs.changing.alone_near.Goals as goal

pub returns-in-Cleared : goal.returns-in-Cleared
returns-in-Cleared g c =
    let e = neighbours_of c.args.neighbours in
    let f = picture_by g.P.Pixel.level c.args.maxval c.args.image in
    subst (λ (t : Change). IfOk c.border_cleared.result (λ r. picture_by g.P.Pixel.level c.args.maxval r ≡ made_alone t e f)) (sym c.in-Cleared.is) (c.border_cleared.ensures c.args.maxval)
