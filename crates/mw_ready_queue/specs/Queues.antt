-- What the queue of open tasks keeps; no public contract speaks of it.
use Rattle.std.specs.Prelude.{◌≡◌, ℕ, zero, suc, ◌+◌, ◌*◌, ◌<◌, ◌≤◌, ◌^◌, Bool, not, ◌&&◌, nat_eq, List, [], ◌++◌, length, map, count_by, slice_index, slice_index_or}
use Rattle.std.specs.List.{AllByRecursion}
use Rattle.mw_model.specs.Tasks.{flag}
use Rattle.mw_grid.specs.Counts.{bit, count_below}

-- how often a number stands in a list
abbrev pub count_of : ℕ → List ℕ → ℕ
count_of t xs = count_by (λ x. nat_eq t x) xs

-- the list has each number below n where this is true once, and nothing else
pub record Listed (n : ℕ) (p : ℕ → Bool) (xs : List ℕ) : Type 0 where
  pub within : AllByRecursion (λ x. x < n) xs
  pub each : (t : ℕ) → t < n → count_of t xs ≡ bit (p t)

-- a task that was not started and waits for nothing
abbrev pub is_open : List Bool → List ℕ → ℕ → Bool
is_open started waiting t = not (flag started t) && nat_eq (slice_index waiting t) 0

-- What a queue shows: which tasks were started, for how many each still waits, the tiles of a step, and the open tiles of each step.
pub record Queued : Type 0 where
  pub started : List Bool
  pub waiting : List ℕ
  pub tiles : ℕ
  pub ready : List (List ℕ)

-- the open tiles of a step
abbrev pub list_at : List (List ℕ) → ℕ → List ℕ
list_at lists s = slice_index_or lists s []

-- the open tasks of the first n steps, those of the latest step first
abbrev pub tasks_handed : List (List ℕ) → ℕ → ℕ → List ℕ
tasks_handed lists tiles zero = []
tasks_handed lists tiles (suc n) = map (λ t. n * tiles + t) (list_at lists n) ++ tasks_handed lists tiles n

-- all open tasks in that order
abbrev pub order_of : Queued → List ℕ
order_of q = tasks_handed q.ready q.tiles (length q.ready)

-- The lists of a queue have its open tasks, and their number is kept.
pub record IsQueue (q : Queued) (total : ℕ) : Type 0 where
  pub some : 1 ≤ q.tiles
  pub few : q.tiles ≤ 16384
  pub started : length q.started ≡ length q.waiting
  pub whole : length q.waiting ≡ length q.ready * q.tiles
  pub small : length q.waiting < 2 ^ 31
  pub listed : (s : ℕ) → s < length q.ready → Listed q.tiles (λ t. is_open q.started q.waiting (s * q.tiles + t)) (list_at q.ready s)
  pub count : total ≡ count_below (is_open q.started q.waiting) (length q.waiting)

-- From the step `top` on no list has an open task.
pub record IsTop (lists : List (List ℕ)) (top : ℕ) : Type 0 where
  pub within : top ≤ length lists
  pub none : (s : ℕ) → top ≤ s → s < length lists → length (list_at lists s) ≡ 0
