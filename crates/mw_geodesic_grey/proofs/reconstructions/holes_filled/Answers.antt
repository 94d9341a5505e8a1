use Rattle.std.proofs.Common.{◌≡◌, ◌≤◌, subst, sym}
use Rattle.std.specs.Prelude.{All, IfOk}
use Rattle.mw_model.specs.Rasters.{Raster}
use Rattle.mw_geodesic.specs.Reconstructions.{holes_filled}
use Rattle.mw_geodesic.specs.Neighbours.{neighbours_of}
use Rattle.mw_geodesic_levels.specs.Pictures.{picture_by}
use Rattle.mw_geodesic_grey.proofs.reconstructions.holes_filled.Goals as goal

pub fill_holes-requires-clause-image : goal.fill_holes-requires-clause-image
fill_holes-requires-clause-image g c = subst (λ (t : Raster _). All (λ s. g.P.Pixel.level s ≤ c.args.maxval) t.cells) (sym c.in_ok-image.ensures.same) c.requires.image

pub returns : goal.returns
returns g c =
    let picture = picture_by g.P.Pixel.level c.args.maxval in
    subst (λ (t : Raster _). IfOk c.fill_holes.result (λ r. picture r ≡ holes_filled (neighbours_of c.args.neighbours) (picture t))) c.in_ok-image.ensures.same c.fill_holes.ensures
