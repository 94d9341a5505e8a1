use Rattle.std.proofs.Common.{◌+◌, ◌*◌, ◌≤◌, nat_eq, get_or, vec_len, vec_capacity}
use Rattle.mw_ready_queue.specs.Queues.{Listed}
use Rattle.mw_ready_queue.proofs.queue.free_tiles.Given as goal

abbrev pub invariant-loop-tile : goal.invariant-loop-tile
invariant-loop-tile l = record {
  listed : Listed l.tile (λ t. nat_eq (get_or l.waiting (l.step * l.tiles + t) 0) 0) l.list.items;
  few : vec_len l.list ≤ l.tile;
  room : l.tiles ≤ vec_capacity l.list;
}
