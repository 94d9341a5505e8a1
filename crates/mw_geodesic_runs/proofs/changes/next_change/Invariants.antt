use Rattle.std.proofs.Common.{◌-◌, length}
use Rattle.mw_geodesic_runs.proofs.ChangedPlaces.{Passed}
use Rattle.mw_geodesic_runs.proofs.changes.next_change.Given as goal

abbrev pub invariant-zeros : goal.invariant-zeros
invariant-zeros l = Passed l.words l.at l.k l.bits

abbrev pub decreases-zeros : goal.decreases-zeros
decreases-zeros l = length l.words - l.k
