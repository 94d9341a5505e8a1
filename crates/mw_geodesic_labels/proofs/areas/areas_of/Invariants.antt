use Rattle.std.proofs.Common.{◌≡◌, length, get_or}
use Rattle.mw_geodesic_labels.specs.Painting.{HeldRuns}
use Rattle.mw_geodesic_labels.specs.Gathering.{AreCounted, AreAreasOf}
use Rattle.mw_geodesic_labels.proofs.areas.areas_of.Given as goal

abbrev pub invariant-loop-y : goal.invariant-loop-y
invariant-loop-y l = record {
  size : length l.areas.items ≡ l.count;
  areas : (held : HeldRuns (λ runs. AreCounted runs l.numbers l.count) l.height l.spans l.starts l.numbers) → AreAreasOf held.runs l.numbers (get_or l.starts l.y 0) l.count l.areas.items;
}

abbrev pub invariant-loop-k : goal.invariant-loop-k
invariant-loop-k l = record {
  size : length l.areas.items ≡ l.count;
  areas : (held : HeldRuns (λ runs. AreCounted runs l.numbers l.count) l.height l.spans l.starts l.numbers) → AreAreasOf held.runs l.numbers l.k l.count l.areas.items;
}
