use Rattle.std.proofs.Common.{◌≡◌, ℕ, ◌≤◌, ◌*◌, length, flat_map, take}
use Rattle.mw_element_runs.specs.declared.runs.Extent.{Extent}
use Rattle.mw_offset.specs.MergedAt.{places_of}
use Rattle.mw_offset.proofs.by_runs.parts_of_sizes.Given as goal

abbrev pub invariant-loop-i : goal.invariant-loop-i
invariant-loop-i l = record {
  few : l.parts ≤ 2 * l.i;
  so_far : (extent : Extent) (wide : ℕ) → l.parts ≡ length (flat_map (places_of extent wide l.sizes.least l.sizes.next) (take l.i l.runs));
}
