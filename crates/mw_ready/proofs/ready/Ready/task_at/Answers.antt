use Rattle.std.proofs.Common.{◌≡◌, ◌<◌, ◌≤◌, ℕ, subst, sym, refl, arith, length, true}
use Rattle.mw_ready.specs.Boards.{Turns, ready_tasks_on, is_ready_on, task_number, task_count_on, step_on_grid}
use Rattle.mw_ready.specs.Kept.{board_of}
use Rattle.mw_ready.proofs.Keeping.{count_is, step_of_number, open_number, latest_step}
use Rattle.mw_ready.proofs.ready.Ready.task_at.Goals as goal

pub task_at-requires : goal.task_at-requires
task_at-requires c =
    let a = c.self.inside in
    let most = subst (λ (v : Turns). c.args.place < ready_tasks_on v.board) (sym c.self.view_is) c.requires in
    omega (arith, most, count_is (board_of a.needs.items a.grid a.queue a.finished.items) a.queue.waiting a.running a.remaining _ c.self.invariant.0 refl)

pub returns-clause-step : goal.returns-clause-step
returns-clause-step c =
    let a = c.self.inside in
    let b = board_of a.needs.items a.grid a.queue a.finished.items in
    subst (λ (v : Turns). c.task_at.result.0 < length v.board.needs) c.self.view_is
    (step_of_number b a.queue.waiting a.running a.remaining a.queue.tiles c.task_at.result.0 c.task_at.result.1 c.self.invariant.0 c.self.invariant.1 c.task_at.ensures.within)

pub returns-clause-ready : goal.returns-clause-ready
returns-clause-ready c =
    let a = c.self.inside in
    let b = board_of a.needs.items a.grid a.queue a.finished.items in
    subst (λ (v : Turns). is_ready_on v.board (task_number v.board.grid c.task_at.result.0 c.task_at.result.1) ≡ true) c.self.view_is
    (open_number b a.queue.waiting a.running a.remaining a.queue.tiles c.task_at.result.0 c.task_at.result.1 c.self.invariant.0 c.self.invariant.1 c.task_at.ensures.within c.task_at.ensures.opened)

pub returns-clause-latest : goal.returns-clause-latest
returns-clause-latest c =
    let a = c.self.inside in
    let b = board_of a.needs.items a.grid a.queue a.finished.items in
    subst (λ (v : Turns). c.args.place ≡ 0 → (n : ℕ) → n < task_count_on v.board → is_ready_on v.board n ≡ true → step_on_grid v.board.grid n ≤ c.task_at.result.0) c.self.view_is
    (λ first n lt ready. latest_step b a.queue.waiting a.running a.remaining a.queue.tiles c.task_at.result.0 n c.self.invariant.0 c.self.invariant.1 (c.task_at.ensures.latest first) lt ready)
