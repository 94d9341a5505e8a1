use Rattle.std.proofs.Common.{◌≡◌, ℕ, ◌-◌, ◌<◌, get_or}
use Rattle.std.specs.Int.{bit_at}
use Rattle.mw_bits.proofs.pairs.are_within.Given as goal

abbrev pub invariant-loop-k : goal.invariant-loop-k
invariant-loop-k l = (j : ℕ) → j < l.k → (i : ℕ) → i < 64 → bit_at (get_or l.words j 0) i - bit_at (get_or l.others j 0) i ≡ 0
