-- The counters of a board are kept.
use Rattle.std.specs.List.{list_all}
use Rattle.std.proofs.Common.{◌≡◌, ◌≢◌, ℕ, ◌+◌, ◌-◌, ◌*◌, ◌/◌, ◌%◌, ◌<◌, ◌≤◌, Bool, true, false, not, ◌&&◌, ◌||◌, nat_eq, List, length, refl, ap, sym, subst, ◌∙◌, arith, inl, inr, set, get_or, replicate, ◌^◌, length-set, add-zero}
use Rattle.std.proofs.lemmas.Bool.{cases_eq, not-true, both_ways, eqb-true}
use Rattle.std.proofs.lemmas.List.{get_or-set_same, get_or-set_other, get_or-replicate, length-replicate}
use Rattle.std.proofs.Math.Nat.{mul-le-mul_left}
use Rattle.std.proofs.lemmas.Nat.{div-mul-add, mod-mul-add}
use Rattle.mw_model.specs.Tasks.{flag}
use Rattle.mw_grid.specs.Grids.{Tiling, tile_count}
use Rattle.mw_ready.specs.declared.need.Need.{Need}
use Rattle.mw_ready.specs.Boards.{Schedule, task_count_on, task_number, tasks_on, is_running_on, is_ready_on, ready_tasks_on, step_on_grid, reads_by_needs, reads_tile, RunsOn}
use Rattle.mw_grid.specs.Counts.{bit, count_below}
use Rattle.mw_ready_queue.specs.Queues.{Queued, is_open}
use Rattle.mw_ready.specs.Counters.{AreWaiting, Lowers}
use Rattle.mw_ready.specs.Kept.{Keeps, read_count, board_of}
use Rattle.mw_grid.proofs.Counts.{count-none, count-all, count-more, bit-at, bit-other}
use Rattle.mw_ready.proofs.Counts.{list_all-count}
use Rattle.std.proofs.Math.Bool.{and-true}
use Rattle.mw_ready.proofs.Lowering.{lowers_same}
use Rattle.std.proofs.lemmas.Bool.{and_parts}
use Rattle.mw_model.proofs.mw_facts.Counts.{count_by-same, count_by-some}
use Rattle.mw_grid.proofs.Lines.{number_of}

-- one task more is finished, of those that a test tells
pub finished_one : (p : ℕ → Bool) (fin : List Bool) (n task : ℕ) → task < n → length fin ≡ n → flag fin task ≡ false
    → count_below (λ u. p u && not (flag (set fin task true) u)) n + bit (p task) ≡ count_below (λ u. p u && not (flag fin u)) n
finished_one p fin n task lt size open_yet = go (p task) refl
  where
    now : flag (set fin task true) task ≡ true
    now = get_or-set_same fin task true false (omega arith)

    other : (u : ℕ) → u ≢ task → flag (set fin task true) u ≡ flag fin u
    other u ne = get_or-set_other fin task u true false ne

    at-old : (u : ℕ) → u ≡ task → flag fin u ≡ false
    at-old u e = ap (flag fin) e ∙ open_yet

    at-new : (u : ℕ) → u ≡ task → flag (set fin task true) u ≡ true
    at-new u e = ap (flag (set fin task true)) e ∙ now

    one : (u : ℕ) → p task ≡ true → bit (p u && not (flag fin u)) ≡ bit (p u && not (flag (set fin task true) u)) + bit (nat_eq u task)
    one u r = elim (cases_eq u task) [
      | inl here ↦
          let read : p u ≡ true = ap p here ∙ r in
          let before : bit (p u && not (flag fin u)) ≡ 1 = rw (read, at-old u here) refl in
          let after : bit (p u && not (flag (set fin task true) u)) ≡ 0 = rw (read, at-new u here) refl in
          omega (arith, bit-at u task here)
      | inr ne ↦
          let same : bit (p u && not (flag (set fin task true) u)) ≡ bit (p u && not (flag fin u)) = ap (λ (b : Bool). bit (p u && not b)) (other u ne) in
          omega (arith, bit-other u task ne)
    ]

    none : (u : ℕ) → p task ≡ false → p u && not (flag (set fin task true) u) ≡ p u && not (flag fin u)
    none u r = elim (cases_eq u task) [
      | inl here ↦ let read : p u ≡ false = ap p here ∙ r in rw read refl
      | inr ne ↦ ap (λ (b : Bool). p u && not b) (other u ne)
    ]

    go : (r : Bool) → p task ≡ r → count_below (λ u. p u && not (flag (set fin task true) u)) n + bit r ≡ count_below (λ u. p u && not (flag fin u)) n
    go true e = sym (count-more (λ u. p u && not (flag fin u)) (λ u. p u && not (flag (set fin task true) u)) task n lt (λ u u-lt. one u e))
    go false e = add-zero (count_below (λ u. p u && not (flag (set fin task true) u)) n) ∙ count_by-same (λ u. p u && not (flag (set fin task true) u)) (λ u. p u && not (flag fin u)) n (λ u u-lt. none u e)

pub ready_is_open : (b : Schedule) (counters : List ℕ) (active left t : ℕ) → Keeps b counters active left → t < task_count_on b → is_open b.started counters t ≡ is_ready_on b t
ready_is_open b counters active left t keeps lt =
    ap (λ (n : ℕ). not (flag b.started t) && nat_eq n 0) (keeps.waits t lt)
    ∙ ap (λ (r : Bool). not (flag b.started t) && r) (sym (list_all-count (reads_by_needs b.needs b.grid t) (flag b.finished) (tasks_on b)))

pub count_is : (b : Schedule) (counters : List ℕ) (active left n : ℕ) → Keeps b counters active left → n ≡ length counters → count_below (is_open b.started counters) n ≡ ready_tasks_on b
count_is b counters active left n keeps e =
    ap (count_below (is_open b.started counters)) (e ∙ keeps.waiting)
    ∙ count_by-same (is_open b.started counters) (is_ready_on b) (task_count_on b) (λ t lt. ready_is_open b counters active left t keeps lt)

not_begun : (b : Schedule) (counters : List ℕ) (active left t : ℕ) → Keeps b counters active left → t < task_count_on b → flag b.started t ≡ false → flag b.finished t ≡ false
not_begun b counters active left t keeps lt idle = go (flag b.finished t) refl
  where
    go : (r : Bool) → flag b.finished t ≡ r → flag b.finished t ≡ false
    go false e = e
    go true e = absurd (both_ways (flag b.started t) idle (keeps.begun t lt e))

-- a task is started
start_keeps : (b : Schedule) (counters : List ℕ) (active left task : ℕ) → Keeps b counters active left → task < task_count_on b → is_open b.started counters task ≡ true
    → Keeps (record b { started = set b.started task true }) counters (active + 1) left
start_keeps b counters active left task keeps lt opened =
    let parts = and_parts (not (flag b.started task)) (nat_eq (get_or counters task 0) 0) opened in
    let idle : flag b.started task ≡ false = not-true (flag b.started task) parts.0 in
    let none : get_or counters task 0 ≡ 0 = eqb-true (get_or counters task 0) 0 parts.1 in
    let unfinished : flag b.finished task ≡ false = not_begun b counters active left task keeps lt idle in
    let now : flag (set b.started task true) task ≡ true = get_or-set_same b.started task true false (let e = keeps.started in omega arith) in
    let size : length (set b.started task true) ≡ length b.started = simp length-set in
    record {
      started = size ∙ keeps.started;
      finished = keeps.finished;
      waiting = keeps.waiting;
      small = keeps.small;
      waits = keeps.waits;
      calm = λ t t-lt begun. elim (cases_eq t task) [
        | inl here ↦ ap (λ (k : ℕ). get_or counters k 0) here ∙ none
        | inr ne ↦ keeps.calm t t-lt (sym (get_or-set_other b.started task t true false ne) ∙ begun)
      ];
      running =
          ap (λ (k : ℕ). k + 1) keeps.running
          ∙ sym (count-more (λ t. flag (set b.started task true) t && not (flag b.finished t)) (is_running_on b) task (task_count_on b) lt (λ t t-lt. elim (cases_eq t task) [
            | inl here ↦
                let p : bit (flag (set b.started task true) t && not (flag b.finished t)) ≡ 1 = rw here (rw (now, unfinished) refl) in
                let q : bit (is_running_on b t) ≡ 0 = rw here (rw idle refl) in
                omega (arith, bit-at t task here)
            | inr ne ↦
                let p : bit (flag (set b.started task true) t && not (flag b.finished t)) ≡ bit (is_running_on b t) = ap (λ (v : Bool). bit (v && not (flag b.finished t))) (get_or-set_other b.started task t true false ne) in
                omega (arith, bit-other t task ne)
          ]));
      remaining = keeps.remaining;
      begun = λ t t-lt done. elim (cases_eq t task) [
        | inl here ↦ ap (flag (set b.started task true)) here ∙ now
        | inr ne ↦ get_or-set_other b.started task t true false ne ∙ keeps.begun t t-lt done
      ];
    }

-- a running task is finished
finish_keeps : (b : Schedule) (counters now : List ℕ) (active left task : ℕ) → Keeps b counters active left → task < task_count_on b → is_running_on b task ≡ true → Lowers (λ t. reads_by_needs b.needs b.grid t task) counters now
    → Keeps (record b { finished = set b.finished task true }) now (active - 1) (left - 1)
finish_keeps b counters now active left task keeps lt running lowers =
    let parts = and_parts (flag b.started task) (not (flag b.finished task)) running in
    let unfinished : flag b.finished task ≡ false = not-true (flag b.finished task) parts.1 in
    let done : flag (set b.finished task true) task ≡ true = get_or-set_same b.finished task true false (let e = keeps.finished in omega arith) in
    let size : length (set b.finished task true) ≡ length b.finished = simp length-set in
    let less-running : count_below (is_running_on b) (task_count_on b) ≡ count_below (λ t. flag b.started t && not (flag (set b.finished task true) t)) (task_count_on b) + 1 =
    count-more (is_running_on b) (λ t. flag b.started t && not (flag (set b.finished task true) t)) task (task_count_on b) lt (λ t t-lt. elim (cases_eq t task) [
      | inl here ↦
          let p : bit (is_running_on b t) ≡ 1 = rw here (ap bit running) in
          let q : bit (flag b.started t && not (flag (set b.finished task true) t)) ≡ 0 = rw here (rw (done, parts.0) refl) in
          omega (arith, bit-at t task here)
      | inr ne ↦
          let p : bit (flag b.started t && not (flag (set b.finished task true) t)) ≡ bit (is_running_on b t) = ap (λ (v : Bool). bit (flag b.started t && not v)) (get_or-set_other b.finished task t true false ne) in
          omega (arith, bit-other t task ne)
    ]) in
    let less-left : count_below (λ t. not (flag b.finished t)) (task_count_on b) ≡ count_below (λ t. not (flag (set b.finished task true) t)) (task_count_on b) + 1 =
    count-more (λ t. not (flag b.finished t)) (λ t. not (flag (set b.finished task true) t)) task (task_count_on b) lt (λ t t-lt. elim (cases_eq t task) [
      | inl here ↦
          let p : bit (not (flag b.finished t)) ≡ 1 = rw here (rw unfinished refl) in
          let q : bit (not (flag (set b.finished task true) t)) ≡ 0 = rw here (rw done refl) in
          omega (arith, bit-at t task here)
      | inr ne ↦
          let p : bit (not (flag (set b.finished task true) t)) ≡ bit (not (flag b.finished t)) = ap (λ (v : Bool). bit (not v)) (get_or-set_other b.finished task t true false ne) in
          omega (arith, bit-other t task ne)
    ]) in
    record {
      started = keeps.started;
      finished = size ∙ keeps.finished;
      waiting = lowers.size ∙ keeps.waiting;
      small = keeps.small;
      waits = λ t t-lt. let e = keeps.waiting in omega (arith, lowers.each t (omega arith), keeps.waits t t-lt, finished_one (reads_by_needs b.needs b.grid t) b.finished (task_count_on b) task lt keeps.finished unfinished);
      calm = λ t t-lt begun. let e = keeps.waiting in omega (arith, lowers.each t (omega arith), keeps.calm t t-lt begun);
      running = let e = keeps.running in omega (arith, less-running);
      remaining = let e = keeps.remaining in omega (arith, less-left);
      begun = λ t t-lt fin. elim (cases_eq t task) [
        | inl here ↦ ap (flag b.started) here ∙ parts.0
        | inr ne ↦ keeps.begun t t-lt (sym (get_or-set_other b.finished task t true false ne) ∙ fin)
      ];
    }

-- what reads an unfinished task waits for it, and is idle
readers_wait : (b : Schedule) (counters : List ℕ) (active left task : ℕ) → Keeps b counters active left → task < task_count_on b → is_running_on b task ≡ true
    → (t : ℕ) → t < length counters → reads_by_needs b.needs b.grid t task ≡ true → (0 < get_or counters t 0) × (flag b.started t ≡ false)
readers_wait b counters active left task keeps lt running = λ t t-lt here.
    let parts = and_parts (flag b.started task) (not (flag b.finished task)) running in
    let unfinished : flag b.finished task ≡ false = not-true (flag b.finished task) parts.1 in
    let n-lt : t < task_count_on b = let e = keeps.waiting in omega arith in
    let more : 0 < get_or counters t 0 = omega (arith, keeps.waits t n-lt, finished_one (reads_by_needs b.needs b.grid t) b.finished (task_count_on b) task lt keeps.finished unfinished, ap bit here) in
    (more, go t n-lt (flag b.started t) refl more)
  where
    go : (t : ℕ) → t < task_count_on b → (r : Bool) → flag b.started t ≡ r → 0 < get_or counters t 0 → flag b.started t ≡ false
    go t n-lt false e more = e
    go t n-lt true e more = absurd (let z = keeps.calm t n-lt e in omega arith)

-- some task is running, so there is one, and it remains
pub some_run : (b : Schedule) (counters now : List ℕ) (active left task : ℕ) → Keeps b counters active left → task < task_count_on b → is_running_on b task ≡ true → (0 < active) × (0 < left)
some_run b counters now active left task keeps lt running =
    let parts = and_parts (flag b.started task) (not (flag b.finished task)) running in
    (omega (arith, keeps.running, count_by-some (is_running_on b) (task_count_on b) task lt running), omega (arith, keeps.remaining, count_by-some (λ t. not (flag b.finished t)) (task_count_on b) task lt parts.1))

-- the tasks that read a tile, by its step and by its number
reads-number : (needs : List Need) (g : Tiling) (step tile t : ℕ) → tile < tile_count g → reads_by_needs needs g t (task_number g step tile) ≡ reads_tile needs g t step tile
reads-number needs g step tile t lt =
    ap (λ (k : ℕ). reads_tile needs g t k (task_number g step tile % tile_count g)) (div-mul-add step (tile_count g) tile lt)
    ∙ ap (reads_tile needs g t step) (mod-mul-add step (tile_count g) tile lt)

pub number_within : (b : Schedule) (step tile : ℕ) → RunsOn b step tile → task_number b.grid step tile < task_count_on b
number_within b step tile runs = number_of (length b.needs) (tile_count b.grid) tile step runs.inside runs.within

pub readers_wait_given : (needs shown : List Need) (g : Tiling) (q : Queued) (finished : List Bool) (active left step tile : ℕ) → Keeps (board_of needs g q finished) q.waiting active left → RunsOn (board_of needs g q finished) step tile → shown ≡ needs
    → AreWaiting (λ t. reads_tile shown g t step tile) q
readers_wait_given needs shown g q finished active left step tile keeps runs shown-is = λ t lt here.
    let b = board_of needs g q finished in
    let same = ap (λ (n : List Need). reads_tile n g t step tile) shown-is in
    readers_wait b q.waiting active left (task_number g step tile) keeps (number_within b step tile runs) runs.running t lt (reads-number needs g step tile t runs.inside ∙ sym same ∙ here)

pub start_keeps_given : (b : Schedule) (counters now : List ℕ) (started : List Bool) (active left task : ℕ) → Keeps b counters active left → task < length counters → is_open b.started counters task ≡ true
    → started ≡ set b.started task true → now ≡ counters → Keeps (record b { started = started }) now (active + 1) left
start_keeps_given b counters now started active left task keeps lt opened e f =
    rw (e, f) (start_keeps b counters active left task keeps (let s = keeps.waiting in omega arith) opened)

pub finish_keeps_given : (b : Schedule) (counters now : List ℕ) (started : List Bool) (shown : List Need) (active left step tile : ℕ) → Keeps b counters active left → RunsOn b step tile → shown ≡ b.needs
    → Lowers (λ t. reads_tile shown b.grid t step tile) counters now → started ≡ b.started
    → Keeps (record b { started = started; finished = set b.finished (task_number b.grid step tile) true }) now (active - 1) (left - 1)
finish_keeps_given b counters now started shown active left step tile keeps runs shown-is lowers e =
    let task = task_number b.grid step tile in
    let lowered : Lowers (λ t. reads_by_needs b.needs b.grid t task) counters now = lowers_same (λ t. reads_tile shown b.grid t step tile) (λ t. reads_by_needs b.needs b.grid t task) counters now
    (λ t. ap (λ (n : List Need). reads_tile n b.grid t step tile) shown-is ∙ sym (reads-number b.needs b.grid step tile t runs.inside)) lowers in
    subst (λ (s : List Bool). Keeps (record b { started = s; finished = set b.finished task true }) now (active - 1) (left - 1)) (sym e) (finish_keeps b counters now active left task keeps (number_within b step tile runs) runs.running lowered)

pub ready_given : (b : Schedule) (counters : List ℕ) (active left t : ℕ) → Keeps b counters active left → t < length counters → is_open b.started counters t ≡ true → is_ready_on b t ≡ true
ready_given b counters active left t keeps lt opened = sym (ready_is_open b counters active left t keeps (let s = keeps.waiting in omega arith)) ∙ opened

pub step_of_number : (b : Schedule) (counters : List ℕ) (active left tiles step tile : ℕ) → Keeps b counters active left → tiles ≡ tile_count b.grid → step * tiles + tile < length counters → step < length b.needs
step_of_number b counters active left tiles step tile keeps tiles-is lt =
    let whole : length counters ≡ length b.needs * tiles = keeps.waiting ∙ ap (λ (k : ℕ). length b.needs * k) (sym tiles-is) in
    less step (length b.needs) tiles (omega arith)
  where
    less : (a n m : ℕ) → a * m < n * m → a < n
    less a n m lt = grind (arith, mul-le-mul_left)

pub open_number : (b : Schedule) (counters : List ℕ) (active left tiles step tile : ℕ) → Keeps b counters active left → tiles ≡ tile_count b.grid → step * tiles + tile < length counters → is_open b.started counters (step * tiles + tile) ≡ true
    → is_ready_on b (task_number b.grid step tile) ≡ true
open_number b counters active left tiles step tile keeps tiles-is lt opened =
    ap (λ (k : ℕ). is_ready_on b (step * k + tile)) (sym tiles-is) ∙ ready_given b counters active left (step * tiles + tile) keeps lt opened

pub latest_step : (b : Schedule) (counters : List ℕ) (active left tiles step n : ℕ) → Keeps b counters active left → tiles ≡ tile_count b.grid
    → ((t : ℕ) → t < length counters → is_open b.started counters t ≡ true → t / tiles ≤ step) → n < task_count_on b → is_ready_on b n ≡ true → step_on_grid b.grid n ≤ step
latest_step b counters active left tiles step n keeps tiles-is latest lt ready =
    let h = latest n (let s = keeps.waiting in omega arith) (ready_is_open b counters active left n keeps lt ∙ ready) in
    omega (arith, ap (λ (k : ℕ). n / k) tiles-is)

-- where nothing is finished
pub none_finished : (p : ℕ → Bool) (finished : List Bool) (n : ℕ) → finished ≡ replicate n false → count_below p n ≡ count_below (λ u. p u && not (flag finished u)) n
none_finished p finished n is = count_by-same p (λ u. p u && not (flag finished u)) n
    (λ u lt. sym (ap (λ (xs : List Bool). p u && not (flag xs u)) is ∙ ap (λ (b : Bool). p u && not b) (get_or-replicate n u false false lt) ∙ and-true (p u)))

-- a task that was started has all that it reads
pub has_all : (b : Schedule) (counters : List ℕ) (active left t : ℕ) → Keeps b counters active left → t < task_count_on b → flag b.started t ≡ true
    → list_all (λ u. not (reads_by_needs b.needs b.grid t u) || flag b.finished u) (tasks_on b) ≡ true
has_all b counters active left t keeps lt begun =
    list_all-count (reads_by_needs b.needs b.grid t) (flag b.finished) (tasks_on b)
    ∙ ap (λ (n : ℕ). nat_eq n 0) (sym (keeps.waits t lt) ∙ keeps.calm t lt begun)

-- nothing was started
pub keeps_fresh : (needs : List Need) (g : Tiling) (q : Queued) (finished : List Bool) (left : ℕ) → length needs * tile_count g < 2 ^ 31 → q.started ≡ replicate (length needs * tile_count g) false → finished ≡ replicate (length needs * tile_count g) false
    → length q.waiting ≡ length needs * tile_count g → left ≡ length needs * tile_count g → ((t : ℕ) → t < length needs * tile_count g → get_or q.waiting t 0 ≡ read_count needs g (length needs * tile_count g) t)
    → Keeps (board_of needs g q finished) q.waiting 0 left
keeps_fresh needs g q finished left small started-is finished-is size left-is each = record {
  started = ap (λ (xs : List Bool). length xs) started-is ∙ length-replicate (length needs * tile_count g) false;
  finished = ap (λ (xs : List Bool). length xs) finished-is ∙ length-replicate (length needs * tile_count g) false;
  waiting = size;
  small = small;
  waits = λ t lt. each t lt ∙ none_finished (reads_by_needs needs g t) finished (length needs * tile_count g) finished-is;
  calm = λ t lt begun. absurd (both_ways (flag q.started t) (idle t lt) begun);
  running = sym (count-none (λ t. flag q.started t && not (flag finished t)) (length needs * tile_count g) (λ t lt. ap (λ (b : Bool). b && not (flag finished t)) (idle t lt)));
  remaining = left-is ∙ sym (count-all (λ t. not (flag finished t)) (length needs * tile_count g) (λ t lt. ap (λ (b : Bool). not b) (unfinished t lt)));
  begun = λ t lt done. absurd (both_ways (flag finished t) (unfinished t lt) done);
}
  where
    idle : (t : ℕ) → t < length needs * tile_count g → flag q.started t ≡ false
    idle t lt = ap (λ (xs : List Bool). flag xs t) started-is ∙ get_or-replicate (length needs * tile_count g) t false false lt

    unfinished : (t : ℕ) → t < length needs * tile_count g → flag finished t ≡ false
    unfinished t lt = ap (λ (xs : List Bool). flag xs t) finished-is ∙ get_or-replicate (length needs * tile_count g) t false false lt
