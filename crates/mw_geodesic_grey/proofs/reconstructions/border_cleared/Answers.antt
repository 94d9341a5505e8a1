use Rattle.mw_geodesic.specs.Neighbours.{neighbours_of}
use Rattle.mw_geodesic.specs.Reconstructions.{border_over}
use Rattle.mw_geodesic_levels.specs.Pictures.{picture_by}
use Rattle.mw_geodesic_grey.proofs.Duals.{cleared_by, rebuilt_width, rebuilt_height}
use Rattle.mw_geodesic_grey.proofs.reconstructions.border_cleared.Goals as goal

pub minus-requires-clause-width : goal.minus-requires-clause-width
minus-requires-clause-width g c =
    let picture = picture_by g.P.Pixel.level 0 in
    let f = picture c.args.image.now in
    rebuilt_width (neighbours_of c.args.neighbours) f (border_over 0 f) (picture c.in_ok-touching.touching) (c.in_ok-touching.ensures 0)

pub minus-requires-clause-height : goal.minus-requires-clause-height
minus-requires-clause-height g c =
    let picture = picture_by g.P.Pixel.level 0 in
    let f = picture c.args.image.now in
    rebuilt_height (neighbours_of c.args.neighbours) f (border_over 0 f) (picture c.in_ok-touching.touching) (c.in_ok-touching.ensures 0)

pub returns : goal.returns
returns g c = λ maxval.
    let picture = picture_by g.P.Pixel.level maxval in
    cleared_by (neighbours_of c.args.neighbours) (picture c.args.image.now) (picture c.in_ok-touching.touching) (picture c.minus.result) (c.in_ok-touching.ensures maxval) (c.minus.ensures maxval)
