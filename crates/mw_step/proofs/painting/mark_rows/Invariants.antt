use Rattle.std.proofs.Common.{ℕ, ◌*◌, get_or}
use Rattle.std.specs.Prelude.{◌==◌, if◌then◌else◌}
use Rattle.mw_step.proofs.Painted.{CellsDone}
use Rattle.mw_step.proofs.painting.mark_rows.Given as goal

abbrev pub invariant-loop-y : goal.invariant-loop-y
invariant-loop-y g l = CellsDone (λ s (x : ℕ). if get_or l.set.cells x 0 == 1 then l.v else s) (l.y * l.set.place.width) l.initial.acc l.acc
