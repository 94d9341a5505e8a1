use Rattle.mw_rank_bits.proofs.Walks.{HasDigits}
use Rattle.mw_rank_bits.proofs.walk.fill.Given as goal

abbrev pub invariant-loop-i : goal.invariant-loop-i
invariant-loop-i l = HasDigits l.number l.i l.planes
