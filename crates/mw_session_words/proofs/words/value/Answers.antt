use Rattle.std.proofs.Common.{◌≤◌, ◌^◌, arith}
use Rattle.std.proofs.Math.Nat.{pow-le-pow_right}
use Rattle.mw_session_words.proofs.words.value.Goals as goal

pub overflow_mul-n : goal.overflow_mul-n
overflow_mul-n c = let top : 10 ^ c.loop-d.d-index ≤ 10 ^ 8 = pow-le-pow_right {n = 10} (omega arith) {i = c.loop-d.d-index} {j = 8} (omega arith) in omega (arith, top)

pub overflow_add-n : goal.overflow_add-n
overflow_add-n c = let top : 10 ^ c.loop-d.d-index ≤ 10 ^ 8 = pow-le-pow_right {n = 10} (omega arith) {i = c.loop-d.d-index} {j = 8} (omega arith) in omega (arith, top)
