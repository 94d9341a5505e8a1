use Rattle.std.proofs.Common.{◌≡◌, subst, IfOk}
use Rattle.mw_model.specs.Pictures.{Picture}
use Rattle.mw_geodesic.specs.Extrema.{lowered_by}
use Rattle.mw_geodesic.specs.Geodesics.{reconstruction}
use Rattle.mw_geodesic.specs.Neighbours.{neighbours_of}
use Rattle.mw_geodesic_levels.specs.Pictures.{picture_by}
use Rattle.mw_geodesic_grey.proofs.Duals.{same_marker}
use Rattle.mw_geodesic_grey.proofs.extrema.h_maxima.Goals as goal

pub returns : goal.returns
returns g c = λ maxval.
    let level = g.P.Pixel.level in
    let f = picture_by level maxval c.args.image.now in
    let marker = same_marker (lowered_by c.args.h) level maxval c.args.image.now c.in_ok-copy.field-0 c.lowered_by-marker.result (c.lowered_by-marker.ensures.picture maxval) c.in_ok-copy.ensures.same in
    subst (λ (t : Picture). IfOk c.reconstruct.result (λ r. picture_by level maxval r ≡ reconstruction (neighbours_of c.args.neighbours) f t)) marker (c.reconstruct.ensures maxval)
