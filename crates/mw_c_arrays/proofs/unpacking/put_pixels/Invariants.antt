use Rattle.std.proofs.Common.{◌≡◌, ℕ, ◌*◌, ◌<◌, get_or}
use Rattle.mw_c_arrays.proofs.unpacking.put_pixels.Given as goal

abbrev pub invariant-loop-y : goal.invariant-loop-y
invariant-loop-y l = (x : ℕ) → x < l.y * l.width → get_or l.out x 0 ≡ get_or l.set.cells x 0
