use Rattle.std.proofs.Common.{◌≡◌, ◌∙◌, subst, refl}
use Rattle.mw_ready.specs.Boards.{Turns, ready_tasks_on}
use Rattle.mw_ready.specs.Kept.{board_of}
use Rattle.mw_ready.proofs.Keeping.{count_is}
use Rattle.mw_ready.proofs.ready.Ready.count.Goals as goal

pub returns-clause-value : goal.returns-clause-value
returns-clause-value c =
    let a = c.self.inside in
    subst (λ (v : Turns). c.count.result ≡ ready_tasks_on v.board) c.self.view_is (c.count.ensures.value ∙ count_is (board_of a.needs.items a.grid a.queue a.finished.items) a.queue.waiting a.running a.remaining _ c.self.invariant.0 refl)
