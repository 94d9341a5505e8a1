use Rattle.std.proofs.Common.{◌≡◌, ◌<◌, ◌↔◌, IsTrue, true, length, subst}
use Rattle.mw_model.specs.Tasks.{is_running}
use Rattle.mw_grid.specs.Grids.{tile_count}
use Rattle.mw_core_planes.specs.StepPlanes.{planes_shown}
use Rattle.mw_core_progress.specs.ProgressView.{ProgressView, number_of}
use Rattle.mw_core_progress.proofs.Boarded.{runs_is, is_run}
use Rattle.mw_core_progress.proofs.progress.PlanProgress.is_running.Goals as goal

pub returns : goal.returns
returns c =
    let i = c.self.inside in
    let planes = planes_shown i.grid i.places.items in
    let e = c.is_running.ensures.value in
    subst (λ (u : ProgressView). IsTrue c.is_running.result ↔ ((c.args.step < length u.progress.plan) × (c.args.tile < tile_count u.tiling) × (is_running u.progress (number_of u.progress c.args.step c.args.tile) ≡ true))) c.self.view_is (
      λ yes. is_run i.plan i.input i.grid i.ready.board planes i.ready.order c.args.step c.args.tile c.self.invariant.1 c.tasks_are_those_of_work.ensures (e.0 yes),
      λ all. e.1 (runs_is i.plan i.input i.grid i.ready.board planes i.ready.order c.args.step c.args.tile c.self.invariant.1 c.tasks_are_those_of_work.ensures all.0 all.1 all.2),
    )
