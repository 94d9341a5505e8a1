use Rattle.std.proofs.Common.{◌≡◌, length, subst}
use Rattle.mw_ready_queue.specs.Queues.{Queued, order_of}
use Rattle.mw_ready_queue.specs.Shown.{queue_of}
use Rattle.mw_ready_queue.proofs.Orders.{length-order}
use Rattle.mw_ready_queue.proofs.queue.Queue.count.Goals as goal

pub returns-clause-order : goal.returns-clause-order
returns-clause-order c =
    let a = c.self.inside in
    subst (λ (q : Queued). a.total ≡ length (order_of q)) c.self.view_is (length-order (queue_of a.started.items a.waiting.items a.tiles a.ready.items) a.total c.self.invariant.0)
