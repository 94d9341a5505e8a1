use Rattle.mw_geodesic_kept.proofs.ShownLarge.{TellsUpTo}
use Rattle.mw_geodesic_kept.proofs.large.tell_large.Given as goal

abbrev pub invariant-loop-i : goal.invariant-loop-i
invariant-loop-i l = TellsUpTo l.least l.areas l.initial.numbers l.i l.numbers
