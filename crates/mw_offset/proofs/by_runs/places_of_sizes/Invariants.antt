use Rattle.std.proofs.Common.{◌≡◌, flat_map, take}
use Rattle.mw_offset.specs.MergedAt.{places_of}
use Rattle.mw_offset.proofs.by_runs.places_of_sizes.Given as goal

abbrev pub invariant-loop-i : goal.invariant-loop-i
invariant-loop-i l = l.places.items ≡ flat_map (places_of l.extent l.wide l.sizes.least l.sizes.next) (take l.i l.runs)
