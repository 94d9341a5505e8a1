use Rattle.std.proofs.Common.{◌∙◌, ap}
use Rattle.mw_c_arrays.specs.Sources.{picture_in}
use Rattle.mw_c_geodesic_levels.specs.Areas.{area_filtered}
use Rattle.mw_c_geodesic_levels.proofs.AreaImages.{area_fits}
use Rattle.mw_c_geodesic_levels.proofs.Planes.{ok_same}
use Rattle.mw_c_geodesic_levels.proofs.areas.filtered_plain.Goals as goal

pub image_made-requires : goal.image_made-requires
image_made-requires c = area_fits c.args.numbers.0 c.args.numbers.1 c.args.around.now c.args.f c.in_ok-image.image c.in_ok-made.made c.requires.image c.in_ok-image.ensures c.in_ok-made.ensures

pub returns : goal.returns
returns c =
    let made = area_filtered c.args.numbers.0 c.args.around.now c.args.numbers.1 in
    ok_same c.image_made.result c.in_ok-made.made (made (picture_in c.args.f)) (c.in_ok-made.ensures ∙ ap made c.in_ok-image.ensures) c.image_made.ensures
