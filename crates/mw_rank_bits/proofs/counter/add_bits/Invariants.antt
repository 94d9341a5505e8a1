use Rattle.std.proofs.Common.{◌+◌, ◌*◌, ◌/◌, length, take}
use Rattle.mw_rank_bits.specs.Numbers.{bits_at, HasAdded}
use Rattle.mw_rank_bits.proofs.counter.add_bits.Given as goal

abbrev pub invariant-loop-i : goal.invariant-loop-i
invariant-loop-i g l = HasAdded g.W.Way.seen (length l.fn.planes / 2) (λ q. bits_at l.cells (take (7 * l.i) l.places) (64 * l.at + q)) l.fn.planes l.planes
