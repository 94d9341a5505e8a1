-- How the lists of a queue are shown; no public contract speaks of it.
use Rattle.std.specs.Prelude.{ℕ, ◌≤◌, ◌<◌, Bool, List, length, map, slice_index_or, vec_capacity}
use Rattle.std.specs.Global.{Vec}
use Rattle.mw_ready_queue.specs.Queues.{Queued}

-- the items of each list
abbrev pub items_of : List (Vec ℕ) → List (List ℕ)
items_of lists = map (λ (v : Vec ℕ). v.items) lists

abbrev pub queue_of : List Bool → List ℕ → ℕ → List (Vec ℕ) → Queued
queue_of started waiting tiles lists = record { started = started; waiting = waiting; tiles = tiles; ready = items_of lists }

-- each list has room for so many
abbrev pub ListsHaveRoom : ℕ → List (Vec ℕ) → Type 0
ListsHaveRoom n lists = (s : ℕ) (v : Vec ℕ) → s < length lists → n ≤ vec_capacity (slice_index_or lists s v)
