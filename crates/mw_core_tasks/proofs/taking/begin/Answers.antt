use Rattle.std.proofs.Common.{◌≡◌, ℕ, ◌<◌, true, length, Option, refl, subst, arith}
use Rattle.std.specs.List.{AllByRecursion}
use Rattle.mw_model.specs.Tasks.{is_ready, task_count}
use Rattle.mw_model.specs.Values.{image_of, value_at}
use Rattle.mw_core_laws.specs.mw_step_task.WindowTasks.{IsBounded, WindowTask}
use Rattle.mw_core_laws.specs.mw_core_progress.ProgressView.{number_of}
use Rattle.mw_core_laws.proofs.Numbers.{length-tiles, number_of-within}
use Rattle.mw_core_tasks.specs.SourceWindows.{IsNoTask, IsTaskOf, IsTaskOrNone}
use Rattle.mw_core_tasks.proofs.taking.begin.Goals as goal

pub returns-in_default-clause-taken : goal.returns-in_default-clause-taken
returns-in_default-clause-taken c =
    let u = c.args.progress.now in
    let at = c.task_at-step.ensures in
    let image = image_of (value_at c.args.store.now.kept c.args.image) in
    let counted : c.task_at-step.result.1 < length u.progress.tiles = omega (arith, at.tile, length-tiles u c.remaining-whole.ensures.whole) in
    let N = number_of u.progress c.task_at-step.result.0 c.task_at-step.result.1 in
    let W : Option WindowTask → Type 0 = λ w. IsTaskOrNone image c.args.t u N w in
    let none : IsNoTask image u N = subst W c.in_default.is c.in_ok-task.ensures in
    let P : ℕ → Type 0 = λ n. (n < task_count u.progress) × (is_ready u.progress n ≡ true) × IsNoTask image u n in
    let all = subst P at.value (number_of-within u.progress c.task_at-step.result.0 c.task_at-step.result.1 at.step counted, at.ready, none) in
    (all.0, all.1, all.2, refl)

pub returns-clause-taken : goal.returns-clause-taken
returns-clause-taken c =
    let u = c.args.progress.now in
    let at = c.task_at-step.ensures in
    let image = image_of (value_at c.args.store.now.kept c.args.image) in
    let counted : c.task_at-step.result.1 < length u.progress.tiles = omega (arith, at.tile, length-tiles u c.remaining-whole.ensures.whole) in
    let N = number_of u.progress c.task_at-step.result.0 c.task_at-step.result.1 in
    let W : Option WindowTask → Type 0 = λ w. IsTaskOrNone image c.args.t u N w in
    let some : IsTaskOf image c.args.t u N c.in-Some.task × (c.in-Some.task.task.ticket ≡ c.args.t) × AllByRecursion IsBounded c.in-Some.task.windows = subst W c.in-Some.is c.in_ok-task.ensures in
    let P : ℕ → Type 0 = λ n. (n < task_count u.progress) × (is_ready u.progress n ≡ true) × IsTaskOf image c.args.t u n c.in-Some.task in
    let all = subst P at.value (number_of-within u.progress c.task_at-step.result.0 c.task_at-step.result.1 at.step counted, at.ready, some.0) in
    record { within = all.0; ready = all.1; task = all.2; ticket = some.1; bounded = some.2; started = c.in_ok-start.ensures.started; whole = c.in_ok-start.ensures.whole }
