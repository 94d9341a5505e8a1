use Rattle.std.proofs.Common.{◌≡◌, ◌<◌, ℕ, not, ◌||◌, true, subst}
use Rattle.std.specs.List.{list_all}
use Rattle.mw_model.specs.Tasks.{flag}
use Rattle.mw_ready.specs.Boards.{Turns, reads_by_needs, task_count_on, tasks_on}
use Rattle.mw_ready.specs.Kept.{board_of}
use Rattle.mw_ready.proofs.Keeping.{has_all}
use Rattle.mw_ready.proofs.ready.Ready.is_running.Goals as goal

abbrev AllHave : Turns → Type 0
AllHave v = (n : ℕ) → n < task_count_on v.board → flag v.board.started n ≡ true → list_all (λ u. not (reads_by_needs v.board.needs v.board.grid n u) || flag v.board.finished u) (tasks_on v.board) ≡ true

pub returns-then-step-len-clause-calm : goal.returns-then-step-len-clause-calm
returns-then-step-len-clause-calm c =
    let a = c.self.inside in
    subst AllHave c.self.view_is (λ n lt begun. has_all (board_of a.needs.items a.grid a.queue a.finished.items) a.queue.waiting a.running a.remaining n c.self.invariant.0 lt begun)

pub returns-then-is_started-clause-calm : goal.returns-then-is_started-clause-calm
returns-then-is_started-clause-calm c =
    let a = c.self.inside in
    subst AllHave c.self.view_is (λ n lt begun. has_all (board_of a.needs.items a.grid a.queue a.finished.items) a.queue.waiting a.running a.remaining n c.self.invariant.0 lt begun)

pub returns-else-is_started-clause-calm : goal.returns-else-is_started-clause-calm
returns-else-is_started-clause-calm c =
    let a = c.self.inside in
    subst AllHave c.self.view_is (λ n lt begun. has_all (board_of a.needs.items a.grid a.queue a.finished.items) a.queue.waiting a.running a.remaining n c.self.invariant.0 lt begun)
