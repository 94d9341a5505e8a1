use Rattle.std.proofs.Common.{ℕ, subst}
use Rattle.std.specs.Prelude.{IfOk}
use Rattle.mw_model.specs.Rasters.{Raster}
use Rattle.mw_pixel.specs.Images.{set_of}
use Rattle.mw_geodesic.specs.Neighbours.{neighbours_of}
use Rattle.mw_geodesic_labels.specs.Regions.{AreRegionsTold}
use Rattle.mw_c_arrays.proofs.SourceImages.{set_fills}
use Rattle.mw_c_geodesic.proofs.Near.{few_places, narrow_plane}
use Rattle.mw_c_geodesic.proofs.regions.regions_near.Goals as goal

pub plane-requires : goal.plane-requires
plane-requires c = set_fills c.args.f c.requires

pub write_regions-requires-clause-narrow : goal.write_regions-requires-clause-narrow
write_regions-requires-clause-narrow c = narrow_plane c.args.f c.in_ok-set.set c.requires c.in_ok-set.ensures

pub write_regions-requires-clause-few : goal.write_regions-requires-clause-few
write_regions-requires-clause-few c = few_places c.args.f c.in_ok-set.set c.requires c.in_ok-set.ensures

pub returns-clause-made : goal.returns-clause-made
returns-clause-made c =
    subst (λ (t : Raster ℕ). IfOk c.write_regions.result (λ n. AreRegionsTold (neighbours_of c.args.neighbours) (set_of t) n c.args.out.now c.write_regions.new.out)) c.in_ok-set.ensures c.write_regions.ensures.made
