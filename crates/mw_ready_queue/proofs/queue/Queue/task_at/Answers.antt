use Rattle.std.proofs.Common.{subst}
use Rattle.mw_ready_queue.specs.Queues.{Queued, IsQueue}
use Rattle.mw_ready_queue.proofs.Opens.{latest_open}
use Rattle.mw_ready_queue.proofs.queue.Queue.task_at.Goals as goal

pub returns-clause-latest : goal.returns-clause-latest
returns-clause-latest c = λ first t lt opened.
    latest_open c.args.self.now c.self.inside.total c.find-step.result.0 t (subst (λ (v : Queued). IsQueue v c.self.inside.total) c.self.view_is c.self.invariant.0) (c.find-step.ensures.latest first) lt opened
