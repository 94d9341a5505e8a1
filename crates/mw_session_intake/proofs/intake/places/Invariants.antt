use Rattle.std.proofs.Common.{◌≤◌}
use Rattle.mw_session_intake.proofs.intake.places.Given as goal

abbrev pub invariant-halves : goal.invariant-halves
invariant-halves l = (l.come ≤ l.places) × (l.places ≤ l.most)

abbrev pub decreases-halves : goal.decreases-halves
decreases-halves l = l.places
