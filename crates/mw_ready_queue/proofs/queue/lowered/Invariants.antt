use Rattle.std.proofs.Common.{◌≡◌, ℕ, ◌<◌, ◌≤◌, length}
use Rattle.mw_ready_queue.specs.Queues.{list_at}
use Rattle.mw_ready_queue.specs.Shown.{items_of}
use Rattle.mw_ready_queue.proofs.queue.lowered.Given as goal

abbrev pub invariant-loop-step : goal.invariant-loop-step
invariant-loop-step l = record {
  within : l.step ≤ l.top;
  none : (s : ℕ) → l.step ≤ s → s < l.top → length (list_at (items_of l.ready) s) ≡ 0;
}

abbrev pub decreases-loop-step : goal.decreases-loop-step
decreases-loop-step l = l.step
