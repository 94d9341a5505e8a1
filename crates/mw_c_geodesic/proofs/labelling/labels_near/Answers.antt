use Rattle.std.proofs.Common.{ℕ, length, subst}
use Rattle.std.specs.Prelude.{IfOk}
use Rattle.mw_model.specs.Rasters.{Raster}
use Rattle.mw_pixel.specs.Images.{set_of}
use Rattle.mw_geodesic.specs.Labels.{IsLabelling}
use Rattle.mw_geodesic.specs.Neighbours.{neighbours_of}
use Rattle.mw_c_arrays.proofs.SourceImages.{set_fills}
use Rattle.mw_c_geodesic.proofs.Near.{few_places, narrow_plane, room_in}
use Rattle.mw_c_geodesic.proofs.labelling.labels_near.Goals as goal

pub plane-requires : goal.plane-requires
plane-requires c = set_fills c.args.f c.requires.image

pub write_labels-requires-clause-narrow : goal.write_labels-requires-clause-narrow
write_labels-requires-clause-narrow c = narrow_plane c.args.f c.in_ok-set.set c.requires.image c.in_ok-set.ensures

pub write_labels-requires-clause-few : goal.write_labels-requires-clause-few
write_labels-requires-clause-few c = few_places c.args.f c.in_ok-set.set c.requires.image c.in_ok-set.ensures

pub write_labels-requires-clause-room : goal.write_labels-requires-clause-room
write_labels-requires-clause-room c = room_in c.args.f c.in_ok-set.set (length c.args.out.now) c.requires.image c.in_ok-set.ensures c.requires.room

pub returns-clause-made : goal.returns-clause-made
returns-clause-made c =
    subst (λ (t : Raster ℕ). IfOk c.write_labels.result (λ r. IsLabelling (neighbours_of c.args.neighbours) (set_of t) r c.write_labels.new.out)) c.in_ok-set.ensures c.write_labels.ensures.made
