use Rattle.std.proofs.Common.{◌-◌, ◌≤◌, length}
use Rattle.mw_c_direct.specs.Kept.{IsEmpty}
use Rattle.mw_c_direct.proofs.running.empty_places.Given as goal

abbrev pub invariant-places : goal.invariant-places
invariant-places l = record {
  size : length l.planes.items ≤ l.count;
  empty : IsEmpty l.planes.items;
}

abbrev pub decreases-places : goal.decreases-places
decreases-places l = l.count - length l.planes.items
