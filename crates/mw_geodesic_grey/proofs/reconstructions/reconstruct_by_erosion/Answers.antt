use Rattle.std.proofs.Common.{refl, sym}
use Rattle.mw_geodesic.specs.Neighbours.{neighbours_of}
use Rattle.mw_geodesic_levels.specs.Pictures.{picture_by}
use Rattle.mw_geodesic_grey.proofs.Duals.{eroded_by}
use Rattle.mw_geodesic_grey.proofs.Redrawn.{plane_picture}
use Rattle.mw_geodesic_grey.proofs.reconstructions.reconstruct_by_erosion.Goals as goal

pub returns : goal.returns
returns g c =
    let maxval = c.args.maxval in
    let picture = picture_by g.P.Pixel.level maxval in
    let marker = c.args.marker in
    let mask = c.args.mask in
    eroded_by (neighbours_of c.args.neighbours) (picture mask) (picture marker) (picture c.complement-below.result) (picture c.complement-within.result) (picture c.in_ok-rebuilt.rebuilt) (picture c.complement.result)
    (plane_picture g.P.Pixel.level maxval marker c.width-marker_size.ensures.size c.requires.marker) (plane_picture g.P.Pixel.level maxval mask c.width-mask_size.ensures.size c.requires.mask)
    (record { kind = refl; width = sym c.requires.width; height = sym c.requires.height; maxval = refl })
    c.complement-below.ensures.picture c.complement-within.ensures.picture (c.in_ok-rebuilt.ensures maxval) c.complement.ensures.picture
