use Rattle.std.proofs.Common.{◌/◌, get_or, length}
use Rattle.mw_geodesic_labels.specs.Painting.{HeldRuns}
use Rattle.mw_geodesic_labels.specs.Gathering.{AreCounted, AreRowsGathered}
use Rattle.mw_geodesic_labels.proofs.regions.gather_rows.Given as goal

abbrev pub invariant-loop-y : goal.invariant-loop-y
invariant-loop-y l = (held : HeldRuns (λ runs. AreCounted runs l.numbers (length l.initial.out / 7)) l.height l.spans l.starts l.numbers) → AreRowsGathered held.runs l.numbers (get_or l.starts l.y 0) l.initial.out l.count l.out

abbrev pub invariant-loop-k : goal.invariant-loop-k
invariant-loop-k l = (held : HeldRuns (λ runs. AreCounted runs l.numbers (length l.fn.out / 7)) l.height l.spans l.starts l.numbers) → AreRowsGathered held.runs l.numbers l.k l.fn.out l.count l.out
