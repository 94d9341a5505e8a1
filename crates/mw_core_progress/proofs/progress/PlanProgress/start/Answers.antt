use Rattle.std.proofs.Common.{◌≡◌, ℕ, ◌<◌, true, set, sym, ap, subst, ◌∙◌}
use Rattle.std.specs.Prelude.{slice_index}
use Rattle.mw_model.specs.Plans.{Planned, is_sum}
use Rattle.mw_model.specs.Tasks.{ready_tasks}
use Rattle.mw_core_planes.specs.StepPlanes.{planes_shown}
use Rattle.mw_core_progress.specs.ProgressView.{ProgressView, IsStarted}
use Rattle.mw_core_progress.specs.Parts.{underway_kept}
use Rattle.mw_core_progress.proofs.Boarded.{place_is}
use Rattle.mw_core_progress.proofs.Opened.{Opening, Starting, on_err, open_level, open_err, open_same, start_whole, start_is}
use Rattle.mw_core_progress.proofs.progress.PlanProgress.start.Goals as goal

pub task_at-step-requires : goal.task_at-step-requires
task_at-step-requires c =
    let i = c.self.inside in
    place_is i.plan i.input i.grid i.ready.board (planes_shown i.grid i.places.items) i.ready.order c.args.place c.self.invariant.1 c.tasks_are_those_of_work.ensures
    (subst (λ (u : ProgressView). c.args.place < ready_tasks u.progress) (sym c.self.view_is) c.requires)

pub open-requires-clause-level : goal.open-requires-clause-level
open-requires-clause-level c =
    let i = c.self.inside in
    open_level i.plan i.input i.grid i.ready i.places.items c.task_at-step.result.0 c.index_mut.result.now c.self.invariant.0 c.self.invariant.1 c.task_at-step.ensures.step c.index_mut.ensures.value

pub invariant_of-self : goal.invariant_of-self
invariant_of-self c =
    let i = c.self.inside in
    let o : Opening i.plan i.grid i.ready i.places.items = record {
      step = c.task_at-step.result.0;
      old = c.index_mut.result.now;
      now = c.open.new.self;
      sums = c.is_sum-sums.result;
      within = c.task_at-step.ensures.step;
      was = c.index_mut.ensures.value;
      sums_is = c.is_sum-sums.ensures ∙ ap (λ (q : Planned). is_sum q.step) c.step.ensures;
      same = c.open.ensures.same;
      suits = c.open.ensures.form;
      more = c.open.ensures.never;
    } in
    let e = open_err i.plan i.input i.grid i.ready i.places.items o c.self.invariant.0 c.self.invariant.1 c.self.invariant.2 in
    (e.0, c.self.invariant.1, e.1, c.self.invariant.3, c.self.invariant.4)

pub returns-in_err-open-clause-same : goal.returns-in_err-open-clause-same
returns-in_err-open-clause-same c =
    let i = c.self.inside in
    let o : Opening i.plan i.grid i.ready i.places.items = record {
      step = c.task_at-step.result.0;
      old = c.index_mut.result.now;
      now = c.open.new.self;
      sums = c.is_sum-sums.result;
      within = c.task_at-step.ensures.step;
      was = c.index_mut.ensures.value;
      sums_is = c.is_sum-sums.ensures ∙ ap (λ (q : Planned). is_sum q.step) c.step.ensures;
      same = c.open.ensures.same;
      suits = c.open.ensures.form;
      more = c.open.ensures.never;
    } in
    on_err c.from_residual.result (underway_kept i.plan i.input i.grid i.ready (set i.places.items o.step o.now) ≡ c.args.self.now) (open_same i.plan i.input i.grid i.ready i.places.items o c.self.invariant.0 c.self.invariant.1 ∙ c.self.view_is)

pub returns-in_err-open-clause-whole : goal.returns-in_err-open-clause-whole
returns-in_err-open-clause-whole c =
    let i = c.self.inside in
    let o : Opening i.plan i.grid i.ready i.places.items = record {
      step = c.task_at-step.result.0;
      old = c.index_mut.result.now;
      now = c.open.new.self;
      sums = c.is_sum-sums.result;
      within = c.task_at-step.ensures.step;
      was = c.index_mut.ensures.value;
      sums_is = c.is_sum-sums.ensures ∙ ap (λ (q : Planned). is_sum q.step) c.step.ensures;
      same = c.open.ensures.same;
      suits = c.open.ensures.form;
      more = c.open.ensures.never;
    } in
    (open_err i.plan i.input i.grid i.ready i.places.items o c.self.invariant.0 c.self.invariant.1 c.self.invariant.2).0

pub start-task-requires : goal.start-task-requires
start-task-requires c =
    let i = c.self.inside in
    place_is i.plan i.input i.grid i.ready.board (planes_shown i.grid i.places.items) i.ready.order c.args.place c.self.invariant.1 c.tasks_are_those_of_work.ensures
    (subst (λ (u : ProgressView). c.args.place < ready_tasks u.progress) (sym c.self.view_is) c.requires)

pub invariant_of-self-2 : goal.invariant_of-self-2
invariant_of-self-2 c =
    let i = c.self.inside in
    let o : Opening i.plan i.grid i.ready i.places.items = record {
      step = c.task_at-step.result.0;
      old = c.index_mut.result.now;
      now = c.open.new.self;
      sums = c.is_sum-sums.result;
      within = c.task_at-step.ensures.step;
      was = c.index_mut.ensures.value;
      sums_is = c.is_sum-sums.ensures ∙ ap (λ (q : Planned). is_sum q.step) c.step.ensures;
      same = c.open.ensures.same;
      suits = c.open.ensures.form;
      more = c.open.ensures.never;
    } in
    let s : Starting i.ready c.start-task.new.self o.step c.task_at-step.result.1 = record {
      within = c.task_at-step.ensures.step;
      inside = c.task_at-step.ensures.tile;
      ready = c.task_at-step.ensures.ready;
      new = c.start-task.ensures.new ∙ ap (λ (n : ℕ). record i.ready.board { started = set i.ready.board.started n true }) (c.start-task.ensures.value ∙ sym c.task_at-step.ensures.value);
    } in
    let e = start_whole i.plan i.input i.grid i.ready c.start-task.new.self i.places.items o c.task_at-step.result.1 c.self.invariant.0 c.self.invariant.1 c.tasks_are_those_of_work.ensures c.self.invariant.2 s c.in_ok-open.ensures.opened in
    (e.0, e.1, e.2, c.self.invariant.3, c.self.invariant.4)

pub returns-clause-whole : goal.returns-clause-whole
returns-clause-whole c =
    let i = c.self.inside in
    let o : Opening i.plan i.grid i.ready i.places.items = record {
      step = c.task_at-step.result.0;
      old = c.index_mut.result.now;
      now = c.open.new.self;
      sums = c.is_sum-sums.result;
      within = c.task_at-step.ensures.step;
      was = c.index_mut.ensures.value;
      sums_is = c.is_sum-sums.ensures ∙ ap (λ (q : Planned). is_sum q.step) c.step.ensures;
      same = c.open.ensures.same;
      suits = c.open.ensures.form;
      more = c.open.ensures.never;
    } in
    let s : Starting i.ready c.start-task.new.self o.step c.task_at-step.result.1 = record {
      within = c.task_at-step.ensures.step;
      inside = c.task_at-step.ensures.tile;
      ready = c.task_at-step.ensures.ready;
      new = c.start-task.ensures.new ∙ ap (λ (n : ℕ). record i.ready.board { started = set i.ready.board.started n true }) (c.start-task.ensures.value ∙ sym c.task_at-step.ensures.value);
    } in
    (start_whole i.plan i.input i.grid i.ready c.start-task.new.self i.places.items o c.task_at-step.result.1 c.self.invariant.0 c.self.invariant.1 c.tasks_are_those_of_work.ensures c.self.invariant.2 s c.in_ok-open.ensures.opened).0

pub returns-clause-started : goal.returns-clause-started
returns-clause-started c =
    let i = c.self.inside in
    let o : Opening i.plan i.grid i.ready i.places.items = record {
      step = c.task_at-step.result.0;
      old = c.index_mut.result.now;
      now = c.open.new.self;
      sums = c.is_sum-sums.result;
      within = c.task_at-step.ensures.step;
      was = c.index_mut.ensures.value;
      sums_is = c.is_sum-sums.ensures ∙ ap (λ (q : Planned). is_sum q.step) c.step.ensures;
      same = c.open.ensures.same;
      suits = c.open.ensures.form;
      more = c.open.ensures.never;
    } in
    let s : Starting i.ready c.start-task.new.self o.step c.task_at-step.result.1 = record {
      within = c.task_at-step.ensures.step;
      inside = c.task_at-step.ensures.tile;
      ready = c.task_at-step.ensures.ready;
      new = c.start-task.ensures.new ∙ ap (λ (n : ℕ). record i.ready.board { started = set i.ready.board.started n true }) (c.start-task.ensures.value ∙ sym c.task_at-step.ensures.value);
    } in
    let new = underway_kept i.plan i.input i.grid c.start-task.new.self (set i.places.items o.step o.now) in
    subst (λ (u : ProgressView). IsStarted u new (slice_index u.order c.args.place)) c.self.view_is
    (subst (λ (n : ℕ). IsStarted (underway_kept i.plan i.input i.grid i.ready i.places.items) new n) c.task_at-step.ensures.value
    (start_is i.plan i.input i.grid i.ready c.start-task.new.self i.places.items o c.task_at-step.result.1 c.self.invariant.0 c.self.invariant.1 s))
