use Rattle.mw_c_arrays.specs.Arrays.{set_picture}
use Rattle.mw_c_geodesic.proofs.Shapes.{changed_fits}
use Rattle.mw_c_geodesic.proofs.changing.changed_plain.Goals as goal

pub image_made-requires : goal.image_made-requires
image_made-requires c = changed_fits c.args.change c.args.around.now (set_picture c.args.f) c.in_ok-image.image c.in_ok-made.made c.requires c.in_ok-image.ensures c.in_ok-made.ensures
