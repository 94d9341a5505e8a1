use Rattle.mw_c_geodesic_levels.proofs.Changed.{plain_fits}
use Rattle.mw_c_geodesic_levels.proofs.changing.changed_plain.Goals as goal

pub image_made-requires : goal.image_made-requires
image_made-requires c = plain_fits c.args.change c.args.around.now c.args.f c.in_ok-image.image c.in_ok-made.made c.requires c.in_ok-image.ensures c.in_ok-made.ensures
