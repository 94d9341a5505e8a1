use Rattle.std.proofs.Common.{subst, ◌≡◌}
use Rattle.std.specs.Prelude.{IfOk}
use Rattle.mw_model.specs.Pictures.{Picture}
use Rattle.mw_pixel.specs.Images.{set_of}
use Rattle.mw_geodesic.specs.Neighbours.{neighbours_of}
use Rattle.mw_geodesic_levels.specs.Pictures.{picture_by}
use Rattle.mw_geodesic_grey.proofs.Duals.{regional_minima_are}
use Rattle.mw_geodesic_grey.proofs.Redrawn.{plane_picture}
use Rattle.mw_geodesic_grey.proofs.extrema.find_minima.Goals as goal

pub returns : goal.returns
returns g c =
    let maxval = c.args.maxval in
    let picture = picture_by g.P.Pixel.level maxval in
    let is = plane_picture g.P.Pixel.level maxval c.args.image c.width-size.ensures.size c.requires.image in
    let same = regional_minima_are (neighbours_of c.args.neighbours) (picture c.args.image) (picture c.complement-below.result) is c.complement-below.ensures.picture in
    subst (λ (t : Picture). IfOk c.regional_maxima.result (λ r. set_of r ≡ t)) same (c.regional_maxima.ensures maxval)
