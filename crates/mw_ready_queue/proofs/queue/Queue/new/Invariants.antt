use Rattle.std.proofs.Common.{◌≡◌, ℕ, ◌+◌, ◌*◌, ◌<◌, ◌≤◌, length, vec_capacity}
use Rattle.mw_grid.specs.Counts.{count_below}
use Rattle.mw_ready_queue.specs.Queues.{Listed, list_at}
use Rattle.mw_ready_queue.specs.Shown.{items_of, ListsHaveRoom}
use Rattle.mw_ready_queue.proofs.Opens.{free}
use Rattle.mw_ready_queue.proofs.queue.Queue.new.Given as goal

abbrev pub invariant-loop-step : goal.invariant-loop-step
invariant-loop-step l = record {
  size : length l.ready.items ≡ l.step;
  capacity : l.steps ≤ vec_capacity l.ready;
  listed : (s : ℕ) → s < l.step → Listed l.tiles (λ t. free l.waiting.items (s * l.tiles + t)) (list_at (items_of l.ready.items) s);
  room : ListsHaveRoom l.tiles l.ready.items;
  total : l.total ≡ count_below (free l.waiting.items) (l.step * l.tiles);
}
