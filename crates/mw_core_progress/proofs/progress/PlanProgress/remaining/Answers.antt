use Rattle.std.proofs.Common.{◌≡◌, subst, sym, ◌∙◌}
use Rattle.mw_model.specs.Tasks.{remaining_tasks}
use Rattle.mw_core_planes.specs.StepPlanes.{planes_shown}
use Rattle.mw_core_progress.specs.ProgressView.{ProgressView}
use Rattle.mw_core_progress.proofs.Boarded.{same_work}
use Rattle.mw_core_progress.proofs.progress.PlanProgress.remaining.Goals as goal

pub returns-clause-value : goal.returns-clause-value
returns-clause-value c =
    let i = c.self.inside in
    subst (λ (u : ProgressView). c.remaining.result ≡ remaining_tasks u.progress) c.self.view_is
    (c.remaining.ensures ∙ sym (same_work i.plan i.input i.grid i.ready.board (planes_shown i.grid i.places.items) i.ready.order c.self.invariant.1 c.tasks_are_those_of_work.ensures).remaining_tasks)
