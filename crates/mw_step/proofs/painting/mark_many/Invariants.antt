use Rattle.std.proofs.Common.{ℕ}
use Rattle.std.specs.Prelude.{◌==◌, if◌then◌else◌}
use Rattle.std.specs.Int.{bit_at}
use Rattle.mw_step.proofs.Painted.{CellsDone}
use Rattle.mw_step.proofs.painting.mark_many.Given as goal

abbrev pub invariant-loop-i : goal.invariant-loop-i
invariant-loop-i g l = CellsDone (λ s (x : ℕ). if bit_at l.word x == 1 then l.v else s) l.i l.initial.acc l.acc
