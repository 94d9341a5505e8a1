use Rattle.mw_pixel.proofs.Cells.{seen_under-raster_of}
use Rattle.mw_pixel.proofs.laws.samples_are_seen.Goals as goal

pub returns : goal.returns
returns c = λ x y. seen_under-raster_of c.args.image.now c.view-view.ensures.picture.size c.args.element.now x y
