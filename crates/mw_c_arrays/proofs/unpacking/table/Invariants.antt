use Rattle.std.proofs.Common.{◌≡◌, ℕ, ◌/◌, ◌%◌, ◌<◌, length, get_or}
use Rattle.std.specs.Int.{bit_at}
use Rattle.mw_c_arrays.proofs.unpacking.table.Given as goal

abbrev pub invariant-loop-k : goal.invariant-loop-k
invariant-loop-k l = record { size : length l.pixels ≡ 2048; bits : (j : ℕ) → j < l.k → get_or l.pixels j 0 ≡ bit_at (j / 8) (j % 8) }
