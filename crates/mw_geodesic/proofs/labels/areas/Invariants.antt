use Rattle.std.proofs.Common.{◌≡◌, ◌<◌, ◌+◌, ℕ, length, take}
use Rattle.std.specs.Prelude.{count_by, ◌==◌, slice_index}
use Rattle.mw_geodesic.proofs.labels.areas.Given as goal

abbrev pub invariant-loop-i : goal.invariant-loop-i
invariant-loop-i l = record {
  size : length l.areas.items ≡ l.count;
  each : (k : ℕ) → k < l.count → slice_index l.areas.items k ≡ count_by (λ s. s == k + 1) (take l.i l.labels);
}
