use Rattle.std.proofs.Common.{◌≡◌, map, take}
use Rattle.mw_bits.specs.mw_element_runs.Runs.{start_of}
use Rattle.mw_rank_bits.proofs.element.places_of.Given as goal

abbrev pub invariant-loop-i : goal.invariant-loop-i
invariant-loop-i l = l.places.items ≡ map (start_of l.extent l.wide) (take l.i l.runs)
