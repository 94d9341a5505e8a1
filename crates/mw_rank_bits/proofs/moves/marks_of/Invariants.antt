use Rattle.mw_rank_bits.specs.Moves.{HasMarks}
use Rattle.mw_rank_bits.proofs.moves.marks_of.Given as goal

abbrev pub invariant-loop-i : goal.invariant-loop-i
invariant-loop-i l = HasMarks l.places l.count l.i l.marks.items
