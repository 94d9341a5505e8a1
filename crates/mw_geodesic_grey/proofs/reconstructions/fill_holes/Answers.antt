use Rattle.mw_geodesic.specs.Neighbours.{neighbours_of}
use Rattle.mw_geodesic_levels.specs.Pictures.{picture_by}
use Rattle.mw_geodesic_grey.proofs.Duals.{filled_by}
use Rattle.mw_geodesic_grey.proofs.Redrawn.{plane_picture}
use Rattle.mw_geodesic_grey.proofs.reconstructions.fill_holes.Goals as goal

pub returns : goal.returns
returns g c =
    let maxval = c.args.maxval in
    let picture = picture_by g.P.Pixel.level maxval in
    let is = plane_picture g.P.Pixel.level maxval c.args.image c.width-size.ensures.size c.requires.image in
    filled_by (neighbours_of c.args.neighbours) (picture c.args.image) (picture c.complement-below.result) (picture c.in_ok-outside.outside) (picture c.complement.result)
    is c.complement-below.ensures.picture (c.in_ok-outside.ensures maxval) c.complement.ensures.picture
