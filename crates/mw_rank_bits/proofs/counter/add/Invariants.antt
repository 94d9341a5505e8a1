use Rattle.mw_rank_bits.specs.Numbers.{three_digits, HasCarried}
use Rattle.mw_rank_bits.proofs.counter.add.Given as goal

abbrev pub invariant-carry : goal.invariant-carry
invariant-carry g l = HasCarried g.W.Way.seen l.i (three_digits l.fn.digits) l.carry.words l.fn.planes l.planes
