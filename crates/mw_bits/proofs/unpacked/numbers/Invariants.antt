use Rattle.std.proofs.Common.{◌≡◌, take}
use Rattle.mw_bits.proofs.unpacked.numbers.Given as goal

abbrev pub invariant-loop-bit : goal.invariant-loop-bit
invariant-loop-bit l = l.levels.items ≡ take l.bit-index l.bits
