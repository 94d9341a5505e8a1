use Rattle.mw_step.proofs.Painted.{BitsLeft}
use Rattle.mw_step.proofs.painting.mark_few.Given as goal

abbrev pub invariant-loop-left : goal.invariant-loop-left
invariant-loop-left g l = BitsLeft l.v l.word l.left l.initial.acc l.acc

abbrev pub decreases-loop-left : goal.decreases-loop-left
decreases-loop-left g l = l.left
