-- The counters of the readers of a board are kept.
use Rattle.std.proofs.Common.{◌≡◌, ℕ, ◌+◌, ◌*◌, ◌<◌, Bool, true, false, not, ◌&&◌, nat_lt, List, length, ap, sym, ◌∙◌, arith, set, get_or, replicate}
use Rattle.std.specs.List.{list_any}
use Rattle.mw_model.specs.Tasks.{flag}
use Rattle.mw_grid.specs.Counts.{bit, count_below}
use Rattle.mw_grid.specs.Grids.{Tiling, tile_count}
use Rattle.mw_ready.specs.declared.need.Need.{Need}
use Rattle.mw_ready.specs.Boards.{Schedule, task_count_on, task_number, tasks_on, is_running_on, reads_by_needs, RunsOn, no_need}
use Rattle.mw_ready.specs.Kept.{CountsReaders, Keeps, reader_count, board_of, takes}
use Rattle.mw_ready_queue.specs.Queues.{Queued}
use Rattle.mw_ready.specs.Counters.{Lowers, NoneIsZero}
use Rattle.std.proofs.lemmas.Bool.{and_parts, not-true}
use Rattle.mw_ready.proofs.Counts.{list_any-count}
use Rattle.mw_ready.proofs.Keeping.{finished_one, none_finished, number_within}
use Rattle.mw_ready.proofs.Raising.{reads_takes}

pub readers_fresh : (needs : List Need) (g : Tiling) (q : Queued) (finished : List Bool) (readers : List ℕ) → finished ≡ replicate (length needs * tile_count g) false → length readers ≡ length needs * tile_count g
    → ((u : ℕ) → u < length needs * tile_count g → get_or readers u 0 ≡ reader_count needs g (length needs * tile_count g) u) → CountsReaders (board_of needs g q finished) readers
readers_fresh needs g q finished readers finished-is size each = record {
  size = size;
  each = λ u lt. each u lt ∙ none_finished (λ t. reads_by_needs needs g t u) finished (length needs * tile_count g) finished-is;
}

-- a running task is finished: one reader less for all that it reads
readers_one : (b : Schedule) (readers : List ℕ) (active left task u : ℕ) (counters : List ℕ) → Keeps b counters active left → CountsReaders b readers → task < task_count_on b → is_running_on b task ≡ true → u < task_count_on b
    → count_below (λ t. reads_by_needs b.needs b.grid t u && not (flag (set b.finished task true) t)) (task_count_on b) + bit (reads_by_needs b.needs b.grid task u) ≡ get_or readers u 0
readers_one b readers active left task u counters keeps counts lt running u-lt =
    let parts = and_parts (flag b.started task) (not (flag b.finished task)) running in
    finished_one (λ t. reads_by_needs b.needs b.grid t u) b.finished (task_count_on b) task lt keeps.finished (not-true (flag b.finished task) parts.1) ∙ sym (counts.each u u-lt)

pub readers_counted : (b : Schedule) (readers counters : List ℕ) (need : Need) (active left step tile : ℕ) → Keeps b counters active left → CountsReaders b readers → RunsOn b step tile → get_or b.needs step no_need ≡ need
    → NoneIsZero (takes need b.grid tile) readers
readers_counted b readers counters need active left step tile keeps counts runs is = λ u lt here.
    let task = task_number b.grid step tile in
    let u-lt : u < task_count_on b = let s = counts.size in omega arith in
    let one = readers_one b readers active left task u counters keeps counts (number_within b step tile runs) runs.running u-lt in
    let there : bit (reads_by_needs b.needs b.grid task u) ≡ 1 = ap bit (reads_takes b.needs need b.grid step tile u runs.inside is ∙ here) in
    omega arith

pub finish_readers : (b : Schedule) (readers now counters : List ℕ) (started : List Bool) (need : Need) (active left step tile : ℕ) → Keeps b counters active left → CountsReaders b readers → RunsOn b step tile → get_or b.needs step no_need ≡ need
    → Lowers (takes need b.grid tile) readers now → CountsReaders (record b { started = started; finished = set b.finished (task_number b.grid step tile) true }) now
finish_readers b readers now counters started need active left step tile keeps counts runs is lowers = record {
  size = lowers.size ∙ counts.size;
  each = λ u lt.
      let task = task_number b.grid step tile in
      let u-lt : u < length readers = let s = counts.size in omega arith in
      let one = readers_one b readers active left task u counters keeps counts (number_within b step tile runs) runs.running lt in
      let low = lowers.each u u-lt in
      let same : bit (takes need b.grid tile u) ≡ bit (reads_by_needs b.needs b.grid task u) = ap bit (sym (reads_takes b.needs need b.grid step tile u runs.inside is)) in
      omega arith;
}

-- a task that is read
pub is_read_is : (b : Schedule) (readers : List ℕ) (u : ℕ) → CountsReaders b readers → u < task_count_on b → nat_lt 0 (get_or readers u 0) ≡ list_any (λ t. not (flag b.finished t) && reads_by_needs b.needs b.grid t u) (tasks_on b)
is_read_is b readers u counts lt = ap (nat_lt 0) (counts.each u lt) ∙ sym (list_any-count (λ t. reads_by_needs b.needs b.grid t u) (flag b.finished) (tasks_on b))
