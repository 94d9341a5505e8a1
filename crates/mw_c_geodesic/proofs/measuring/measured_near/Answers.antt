use Rattle.std.proofs.Common.{ℕ, length, subst}
use Rattle.std.specs.Prelude.{IfOk}
use Rattle.mw_model.specs.Rasters.{Raster}
use Rattle.mw_pixel.specs.Images.{set_of}
use Rattle.mw_geodesic.specs.Neighbours.{neighbours_of}
use Rattle.mw_geodesic_labels.specs.Regions.{AreRegionsWithLabels}
use Rattle.mw_c_arrays.proofs.SourceImages.{set_fills}
use Rattle.mw_c_geodesic.proofs.Near.{few_places, narrow_plane, room_in}
use Rattle.mw_c_geodesic.proofs.measuring.measured_near.Goals as goal

pub plane-requires : goal.plane-requires
plane-requires c = set_fills c.args.f c.requires.image

pub label_and_measure-requires-clause-narrow : goal.label_and_measure-requires-clause-narrow
label_and_measure-requires-clause-narrow c = narrow_plane c.args.f c.in_ok-set.set c.requires.image c.in_ok-set.ensures

pub label_and_measure-requires-clause-few : goal.label_and_measure-requires-clause-few
label_and_measure-requires-clause-few c = few_places c.args.f c.in_ok-set.set c.requires.image c.in_ok-set.ensures

pub label_and_measure-requires-clause-room : goal.label_and_measure-requires-clause-room
label_and_measure-requires-clause-room c = room_in c.args.f c.in_ok-set.set (length c.args.out.now) c.requires.image c.in_ok-set.ensures c.requires.room

pub returns-clause-made : goal.returns-clause-made
returns-clause-made c =
    subst (λ (t : Raster ℕ). IfOk c.label_and_measure.result (λ n. AreRegionsWithLabels (neighbours_of c.args.neighbours) (set_of t) n c.args.rows.now c.label_and_measure.new.rows c.args.out.now c.label_and_measure.new.out)) c.in_ok-set.ensures c.label_and_measure.ensures.made
