use Rattle.mw_c_arrays.specs.Sources.{picture_in}
use Rattle.mw_c_arrays.proofs.SourceImages.{source_image}
use Rattle.mw_c_geodesic.proofs.Shapes.{method_fits}
use Rattle.mw_c_geodesic.proofs.rebuilding.rebuilt_plain.Goals as goal

pub image_made-requires : goal.image_made-requires
image_made-requires c =
    method_fits c.args.method c.args.around.now (picture_in c.args.mask) (picture_in c.args.marker) c.in_ok-mask.mask c.in_ok-marker.marker c.in_ok-made.made (source_image c.args.mask c.requires.mask) (source_image c.args.marker c.requires.marker) c.requires.shape
    c.in_ok-mask.ensures c.in_ok-marker.ensures c.in_ok-made.ensures
