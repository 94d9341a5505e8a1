use Rattle.std.proofs.Common.{◌≤◌, ap, subst, arith, length, List}
use mathlib.Core.List.{IsPrefix}
use Rattle.mw_pool_passes.specs.mw_step_task.WindowTasks.{WindowTask}
use Rattle.mw_pool.proofs.Fronts.{le-true, prefix-shorter}
use Rattle.mw_pool.proofs.roll.Front.begins.Goals as goal

pub returns-clause-begins : goal.returns-clause-begins
returns-clause-begins g c = λ shorter.
    let both = c.learn.new.self.log in
    let this : IsPrefix c.self.inside.seen.log both = subst (λ (l : List WindowTask). IsPrefix l both) (ap (λ s. s.log) c.again-both.ensures) c.learn.ensures.2 in
    let least : c.self.inside.tasks ≤ c.other.inside.tasks = le-true c.self.inside.tasks c.other.inside.tasks shorter in
    let less : length c.self.inside.seen.log ≤ length c.other.inside.seen.log = omega (arith, c.self.invariant.0, c.other.invariant.0, least) in
    rw (← c.self.view_is, ← c.other.view_is) (prefix-shorter c.self.inside.seen.log c.other.inside.seen.log both this c.learn.ensures.3 less)
