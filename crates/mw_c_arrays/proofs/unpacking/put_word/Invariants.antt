use Rattle.std.proofs.Common.{◌≡◌, ℕ, ◌*◌, ◌<◌, get_or}
use Rattle.std.specs.Int.{bit_at}
use Rattle.mw_c_arrays.proofs.unpacking.put_word.Given as goal

abbrev pub invariant-loop-j : goal.invariant-loop-j
invariant-loop-j l = (i : ℕ) → i < 8 * l.j → get_or l.out i 0 ≡ bit_at l.word i
