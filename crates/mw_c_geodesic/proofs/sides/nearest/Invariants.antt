use Rattle.std.proofs.Common.{◌≡◌, ◌<◌, ◌+◌, ℕ, length}
use Rattle.std.specs.Prelude.{slice_index}
use Rattle.mw_c_geodesic.specs.Sides.{IsLeastTold, how_far}
use Rattle.mw_c_geodesic.proofs.sides.nearest.Given as goal

abbrev pub invariant-loop-i : goal.invariant-loop-i
invariant-loop-i l = record {
  size : length l.least.items ≡ l.count;
  each : (k : ℕ) → k < l.count → IsLeastTold (how_far l.side l.width l.height) l.labels l.i (k + 1) (slice_index l.least.items k);
}
