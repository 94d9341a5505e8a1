use Rattle.std.proofs.Common.{◌≡◌, subst}
use Rattle.std.specs.Prelude.{IfOk}
use Rattle.mw_model.specs.Rasters.{Raster}
use Rattle.mw_pixel.specs.Images.{set_of}
use Rattle.mw_geodesic_distances.specs.Metrics.{metric_distance}
use Rattle.mw_c_arrays.proofs.SourceImages.{set_fills}
use Rattle.mw_c_geodesic.proofs.distances.distances_in.Goals as goal

pub plane-requires : goal.plane-requires
plane-requires c = set_fills c.args.f c.requires

pub returns : goal.returns
returns c =
    subst (λ (t : Raster _). IfOk c.distances_of.result (λ r. r.items ≡ (metric_distance c.args.metric c.args.top (set_of t)).samples)) c.in_ok-set.ensures c.distances_of.ensures
