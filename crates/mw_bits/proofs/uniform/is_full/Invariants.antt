use Rattle.std.proofs.Common.{◌≡◌, ℕ, ◌+◌, ◌*◌, ◌<◌, get_or}
use Rattle.mw_bits.proofs.uniform.is_full.Given as goal

abbrev pub invariant-loop-y : goal.invariant-loop-y
invariant-loop-y l = (j : ℕ) → j < l.y → (x : ℕ) → x < l.set.place.width → get_or l.set.cells (j * l.set.place.width + x) 0 ≡ 1
