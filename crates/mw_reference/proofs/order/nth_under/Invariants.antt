use Rattle.mw_reference.proofs.Ranks.{NotYet}
use Rattle.mw_reference.proofs.order.nth_under.Given as goal

abbrev pub invariant-loop-i : goal.invariant-loop-i
invariant-loop-i l = NotYet l.image l.element l.k l.i l.x l.y
