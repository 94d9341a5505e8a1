use Rattle.std.proofs.Common.{◌≡◌, ℕ, ◌<◌, ◌≤◌, length, get_or}
use Rattle.mw_ready_queue.specs.Queues.{list_at, tasks_handed, order_of}
use Rattle.mw_ready_queue.proofs.queue.Queue.find.Given as goal

abbrev pub invariant-loop-step : goal.invariant-loop-step
invariant-loop-step l = record {
  within : l.step ≤ length l.self.ready;
  low : l.left < length (tasks_handed l.self.ready l.self.tiles l.step);
  value : get_or (order_of l.self) l.place 0 ≡ get_or (tasks_handed l.self.ready l.self.tiles l.step) l.left 0;
  front : l.place ≡ 0 → l.left ≡ 0;
  latest : l.place ≡ 0 → (s : ℕ) → l.step ≤ s → s < length l.self.ready → length (list_at l.self.ready s) ≡ 0;
}

abbrev pub decreases-loop-step : goal.decreases-loop-step
decreases-loop-step l = l.step
