use Rattle.std.proofs.Common.{◌≡◌, subst, IfOk}
use Rattle.mw_model.specs.Pictures.{Picture}
use Rattle.mw_model.specs.Flat.{minus, threshold}
use Rattle.mw_pixel.specs.Images.{set_of}
use Rattle.mw_geodesic.specs.Extrema.{h_maxima, lowered_by}
use Rattle.mw_geodesic.specs.Neighbours.{neighbours_of}
use Rattle.mw_geodesic_levels.specs.Pictures.{picture_by}
use Rattle.mw_geodesic_grey.proofs.Duals.{rebuilt_width, rebuilt_height}
use Rattle.mw_geodesic_grey.proofs.extrema.regional_maxima.Goals as goal

pub places_over-requires-clause-width : goal.places_over-requires-clause-width
places_over-requires-clause-width g c =
    let picture = picture_by g.P.Pixel.level 0 in
    let f = picture c.args.image.now in
    rebuilt_width (neighbours_of c.args.neighbours) f (lowered_by 1 f) (picture c.in_ok-cut.cut) (c.in_ok-cut.ensures 0)

pub places_over-requires-clause-height : goal.places_over-requires-clause-height
places_over-requires-clause-height g c =
    let picture = picture_by g.P.Pixel.level 0 in
    let f = picture c.args.image.now in
    rebuilt_height (neighbours_of c.args.neighbours) f (lowered_by 1 f) (picture c.in_ok-cut.cut) (c.in_ok-cut.ensures 0)

pub returns : goal.returns
returns g c = λ maxval.
    let f = picture_by g.P.Pixel.level maxval c.args.image.now in
    let cut = h_maxima (neighbours_of c.args.neighbours) 1 f in
    subst (λ (t : Picture). IfOk c.places_over.result (λ r. set_of r ≡ threshold 1 (minus f t))) {y = cut} (c.in_ok-cut.ensures maxval) (c.places_over.ensures maxval)
