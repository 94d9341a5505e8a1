use Rattle.std.proofs.Common.{◌≡◌, ◌<◌, ℕ, length}
use Rattle.std.specs.Prelude.{slice_index_or}
use Rattle.mw_geodesic_labels.specs.declared.regions.Region.{Region}
use Rattle.mw_c_geodesic.specs.Sides.{IsRegionIn}
use Rattle.mw_c_geodesic.proofs.told_regions.regions_in.Given as goal

abbrev pub invariant-loop-k : goal.invariant-loop-k
invariant-loop-k l = record {
  size : length l.regions.items ≡ l.k;
  each : (j : ℕ) (d : Region) → j < l.k → IsRegionIn l.t l.width l.height j (slice_index_or l.regions.items j d);
}
