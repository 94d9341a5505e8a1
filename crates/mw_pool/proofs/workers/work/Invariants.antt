use Rattle.std.proofs.Common.{◌≡◌}
use Rattle.std.specs.Prelude.{IfSome}
use Rattle.std.specs.List.{AllByRecursion}
use Rattle.mw_pool_passes.specs.mw_step_task.WindowTasks.{IsBounded}
use Rattle.mw_pool.specs.Rolls.{EndsWith}
use Rattle.mw_pool.proofs.workers.work.Given as goal

abbrev pub invariant-loop : goal.invariant-loop
invariant-loop g l =
    IfSome l.taken (λ r. AllByRecursion IsBounded r.0.windows)
    × IfSome l.taken (λ r. IfSome r.1 (λ seen. EndsWith seen r.0))
