use Rattle.std.proofs.Common.{ℕ, ◌*◌}
use Rattle.std.specs.Prelude.{◌==◌, if◌then◌else◌}
use Rattle.mw_step_task.specs.mw_pixel_words.Packed.{bit_of}
use Rattle.mw_step.proofs.Painted.{CellsDone}
use Rattle.mw_step.proofs.painting.mark_row.Given as goal

abbrev pub invariant-loop-k : goal.invariant-loop-k
invariant-loop-k g l = CellsDone (λ s (x : ℕ). if bit_of l.words x == 1 then l.v else s) (64 * l.k) l.initial.acc l.acc
