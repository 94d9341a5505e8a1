-- What the counters of a board are; no public contract speaks of them.
use Rattle.std.specs.Prelude.{◌≡◌, ℕ, ◌<◌, ◌%◌, ◌^◌, Bool, true, not, ◌&&◌, nat_eq, List, length, slice_index}
use Rattle.mw_model.specs.declared.offsets.Reach.{Reach}
use Rattle.mw_model.specs.Tasks.{flag}
use Rattle.mw_grid.specs.Counts.{count_below}
use Rattle.mw_grid.specs.Grids.{Tiling, tile_count}
use Rattle.mw_grid.specs.Blocks.{sees}
use Rattle.mw_ready.specs.declared.need.Need.{Need}
use Rattle.mw_ready_queue.specs.Queues.{Queued}
use Rattle.mw_ready.specs.Boards.{Schedule, task_count_on, step_on_grid, step_reads, reads_by_needs, running_tasks_on, remaining_tasks_on}

-- how many of the first n tasks t reads
abbrev pub read_count : List Need → Tiling → ℕ → ℕ → ℕ
read_count needs g n t = count_below (reads_by_needs needs g t) n

-- how many of the first n tasks t reads that are not finished
abbrev pub unfinished_reads : List Need → Tiling → List Bool → ℕ → ℕ → ℕ
unfinished_reads needs g finished n t = count_below (λ u. reads_by_needs needs g t u && not (flag finished u)) n

-- how many of the first n tasks read u
abbrev pub reader_count : List Need → Tiling → ℕ → ℕ → ℕ
reader_count needs g n u = count_below (λ t. reads_by_needs needs g t u) n

-- how many of the first n tasks read u and are not finished
abbrev pub unfinished_readers : List Need → Tiling → List Bool → ℕ → ℕ → ℕ
unfinished_readers needs g finished n u = count_below (λ t. reads_by_needs needs g t u && not (flag finished t)) n

-- t is a task of this step whose window, with this reach, meets the tile
abbrev pub is_near : Tiling → Reach → ℕ → ℕ → ℕ → Bool
is_near g reach step tile t = nat_eq (step_on_grid g t) step && sees g reach (t % tile_count g) tile

-- a task with this need and tile reads task u
abbrev pub takes : Need → Tiling → ℕ → ℕ → Bool
takes need g tile u = step_reads need (step_on_grid g u) && sees g need.reach tile (u % tile_count g)

-- how many tiles have a window, as wide as the reach, that meets this tile
abbrev pub seen_by : Tiling → Reach → ℕ → ℕ
seen_by g reach tile = count_below (λ w. sees g reach w tile) (tile_count g)

pub record Keeps (b : Schedule) (counters : List ℕ) (active left : ℕ) : Type 0 where
  pub started : length b.started ≡ task_count_on b
  pub finished : length b.finished ≡ task_count_on b
  pub waiting : length counters ≡ task_count_on b
  pub small : task_count_on b < 2 ^ 31
  pub waits : (t : ℕ) → t < task_count_on b → slice_index counters t ≡ unfinished_reads b.needs b.grid b.finished (task_count_on b) t
  pub calm : (t : ℕ) → t < task_count_on b → flag b.started t ≡ true → slice_index counters t ≡ 0
  pub running : active ≡ running_tasks_on b
  pub remaining : left ≡ remaining_tasks_on b
  pub begun : (t : ℕ) → t < task_count_on b → flag b.finished t ≡ true → flag b.started t ≡ true

-- of each task it is counted how many unfinished ones read it
pub record CountsReaders (b : Schedule) (readers : List ℕ) : Type 0 where
  pub size : length readers ≡ task_count_on b
  pub each : (u : ℕ) → u < task_count_on b → slice_index readers u ≡ unfinished_readers b.needs b.grid b.finished (task_count_on b) u

-- the board of a queue of its tasks
abbrev pub board_of : List Need → Tiling → Queued → List Bool → Schedule
board_of needs g q finished = record { needs = needs; grid = g; started = q.started; finished = finished }
