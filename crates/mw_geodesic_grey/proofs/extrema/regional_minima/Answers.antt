use Rattle.std.proofs.Common.{◌≡◌, ◌≤◌, subst, sym}
use Rattle.std.specs.Prelude.{All, IfOk}
use Rattle.mw_model.specs.Rasters.{Raster}
use Rattle.mw_pixel.specs.Images.{set_of}
use Rattle.mw_geodesic.specs.Extrema.{regional_minima}
use Rattle.mw_geodesic.specs.Neighbours.{neighbours_of}
use Rattle.mw_geodesic_levels.specs.Pictures.{picture_by}
use Rattle.mw_geodesic_grey.proofs.extrema.regional_minima.Goals as goal

pub find_minima-requires-clause-image : goal.find_minima-requires-clause-image
find_minima-requires-clause-image g c = subst (λ (t : Raster _). All (λ s. g.P.Pixel.level s ≤ c.args.maxval) t.cells) (sym c.in_ok-image.ensures.same) c.requires.image

pub returns : goal.returns
returns g c =
    let picture = picture_by g.P.Pixel.level c.args.maxval in
    subst (λ (t : Raster _). IfOk c.find_minima.result (λ r. set_of r ≡ regional_minima (neighbours_of c.args.neighbours) (picture t))) c.in_ok-image.ensures.same c.find_minima.ensures
