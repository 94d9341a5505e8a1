use Rattle.std.proofs.Common.{◌≡◌, ◌<◌, true, subst, sym, ◌∙◌}
use Rattle.std.specs.Prelude.{slice_index}
use Rattle.mw_model.specs.Tasks.{ready_tasks, is_ready}
use Rattle.mw_core_planes.specs.StepPlanes.{planes_shown}
use Rattle.mw_core_progress.specs.ProgressView.{ProgressView, number_of}
use Rattle.mw_core_progress.proofs.Boarded.{place_is, number_is, ready_is}
use Rattle.mw_core_progress.proofs.progress.PlanProgress.task_at.Goals as goal

pub task_at-requires : goal.task_at-requires
task_at-requires c =
    let i = c.self.inside in
    place_is i.plan i.input i.grid i.ready.board (planes_shown i.grid i.places.items) i.ready.order c.args.place c.self.invariant.1 c.tasks_are_those_of_work.ensures
    (subst (λ (u : ProgressView). c.args.place < ready_tasks u.progress) (sym c.self.view_is) c.requires)

pub returns-clause-value : goal.returns-clause-value
returns-clause-value c =
    let i = c.self.inside in
    let r = c.task_at.result in
    subst (λ (u : ProgressView). number_of u.progress r.0 r.1 ≡ slice_index u.order c.args.place) c.self.view_is
    (number_is i.plan i.input i.grid i.ready.board (planes_shown i.grid i.places.items) i.ready.order r.0 r.1 c.self.invariant.1 ∙ c.task_at.ensures.value)

pub returns-clause-ready : goal.returns-clause-ready
returns-clause-ready c =
    let i = c.self.inside in
    let r = c.task_at.result in
    let e = c.task_at.ensures in
    subst (λ (u : ProgressView). is_ready u.progress (number_of u.progress r.0 r.1) ≡ true) c.self.view_is
    (ready_is i.plan i.input i.grid i.ready.board (planes_shown i.grid i.places.items) i.ready.order r.0 r.1 c.self.invariant.1 c.tasks_are_those_of_work.ensures e.step e.tile e.ready)
