use Rattle.std.proofs.Common.{◌≡◌, ◌<◌, ◌+◌, ◌*◌, ◌∙◌, subst, sym, refl, arith, length, true}
use Rattle.mw_model.proofs.mw_facts.Counts.{count_by-most}
use Rattle.mw_ready.specs.Boards.{Turns, ready_tasks_on, is_ready_on, is_running_on, task_number, task_count_on}
use Rattle.mw_ready.specs.Kept.{board_of}
use Rattle.mw_ready.proofs.Keeping.{count_is, start_keeps_given, step_of_number, open_number}
use Rattle.mw_ready.proofs.ready.Ready.start.Goals as goal

pub take-task-requires : goal.take-task-requires
take-task-requires c =
    let a = c.self.inside in
    let most = subst (λ (v : Turns). c.args.place < ready_tasks_on v.board) (sym c.self.view_is) c.requires in
    omega (arith, most, count_is (board_of a.needs.items a.grid a.queue a.finished.items) a.queue.waiting a.running a.remaining _ c.self.invariant.0 refl)

pub overflow_add-self : goal.overflow_add-self
overflow_add-self c =
    let a = c.self.inside in
    let b = board_of a.needs.items a.grid a.queue a.finished.items in
    let keeps = c.self.invariant.0 in
    omega (arith, keeps.running, keeps.small, count_by-most (is_running_on b) (task_count_on b))

pub invariant_of-self : goal.invariant_of-self
invariant_of-self c =
    let a = c.self.inside in
    let b = board_of a.needs.items a.grid a.queue a.finished.items in
    let e = c.take-task.ensures in (
      start_keeps_given b a.queue.waiting c.take-task.new.self.waiting c.take-task.new.self.started a.running a.remaining (c.take-task.result.0 * a.queue.tiles + c.take-task.result.1) c.self.invariant.0 e.within e.opened e.started e.waiting,
      e.tiles ∙ c.self.invariant.1,
      c.self.invariant.2,
      record { size = c.self.invariant.3.size; each = c.self.invariant.3.each },
      c.self.invariant.4,
    )

pub returns-clause-step : goal.returns-clause-step
returns-clause-step c =
    let a = c.self.inside in
    let b = board_of a.needs.items a.grid a.queue a.finished.items in
    let e = c.take-task.ensures in
    subst (λ (v : Turns). c.take-task.result.0 < length v.board.needs) c.self.view_is
    (step_of_number b a.queue.waiting a.running a.remaining a.queue.tiles c.take-task.result.0 c.take-task.result.1 c.self.invariant.0 c.self.invariant.1 e.within)

pub returns-clause-ready : goal.returns-clause-ready
returns-clause-ready c =
    let a = c.self.inside in
    let b = board_of a.needs.items a.grid a.queue a.finished.items in
    let e = c.take-task.ensures in
    subst (λ (v : Turns). is_ready_on v.board (task_number v.board.grid c.take-task.result.0 c.take-task.result.1) ≡ true) c.self.view_is
    (open_number b a.queue.waiting a.running a.remaining a.queue.tiles c.take-task.result.0 c.take-task.result.1 c.self.invariant.0 c.self.invariant.1 e.within e.opened)
