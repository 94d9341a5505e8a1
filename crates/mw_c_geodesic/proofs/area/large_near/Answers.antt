use Rattle.std.proofs.Common.{◌∙◌, ℕ, length, ap}
use Rattle.std.proofs.lemmas.Result.{on_ok_weaker}
use Rattle.mw_model.specs.Rasters.{Raster}
use Rattle.mw_pixel.specs.Images.{set_of}
use Rattle.mw_geodesic.specs.Components.{large_components}
use Rattle.mw_geodesic.specs.Neighbours.{neighbours_of}
use Rattle.mw_c_arrays.proofs.SourceImages.{set_fills}
use Rattle.mw_c_geodesic.proofs.Near.{few_places, narrow_plane, room_in}
use Rattle.mw_c_geodesic.proofs.area.large_near.Goals as goal

pub plane-requires : goal.plane-requires
plane-requires c = set_fills c.args.f c.requires.image

pub write_large_components-requires-clause-narrow : goal.write_large_components-requires-clause-narrow
write_large_components-requires-clause-narrow c = narrow_plane c.args.f c.in_ok-set.set c.requires.image c.in_ok-set.ensures

pub write_large_components-requires-clause-few : goal.write_large_components-requires-clause-few
write_large_components-requires-clause-few c = few_places c.args.f c.in_ok-set.set c.requires.image c.in_ok-set.ensures

pub write_large_components-requires-clause-room : goal.write_large_components-requires-clause-room
write_large_components-requires-clause-room c = room_in c.args.f c.in_ok-set.set (length c.args.out.now) c.requires.image c.in_ok-set.ensures c.requires.room

pub returns-clause-made : goal.returns-clause-made
returns-clause-made c =
    on_ok_weaker c.write_large_components.result
    (λ is. is ∙ ap (λ (t : Raster ℕ). (large_components (neighbours_of c.args.neighbours) c.args.least (set_of t)).samples) c.in_ok-set.ensures) c.write_large_components.ensures.made
