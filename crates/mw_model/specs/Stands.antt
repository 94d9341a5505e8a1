-- What a core shows, and for which states of the machine it stands (own).
use Rattle.std.specs.Prelude.{ℕ, ◌≡◌, ◌<◌, ◌≤◌, ◌&&◌, Bool, true, false, nat_eq, List, length, map, sum, Option, Some, None, IsSome, ◌↔◌, slice_index_or, option_map, nat_lt, if◌then◌else◌}
use Rattle.std.specs.Option.{option_map_or}
use Rattle.std.specs.List.{range_with_len, list_all, list_any, AllByRecursion}
use Rattle.mw_model.specs.declared.calls.LogItem.{LogItem}
use Rattle.mw_model.specs.declared.calls.Outcome.TheVariants as outcome
use Rattle.mw_model.specs.declared.limits.TheConstants.{TASK_LIMIT}
use Rattle.mw_model.specs.Rectangles.{CoverOnce}
use Rattle.mw_model.specs.Pictures.{Picture}
use Rattle.mw_model.specs.Values.{Value, value_at, tickets}
use Rattle.mw_model.specs.Refusals.{Table, outcome_at, submission_at, is_pending, is_there}
use Rattle.mw_model.specs.Machine.{Machine, Run, start_state, values}
use Rattle.mw_model.specs.Plans.{IsSourceAt, images_of, planes, value_of_planes}
use Rattle.mw_model.specs.Tasks.{Progress, nothing_planned, task_count, flag, planned_of, tile_of_task, sources_of, made_of_planes, is_ready, is_needed, ready_tasks, running_tasks, remaining_tasks}

-- What a core shows: its table, the value that it keeps of each ticket, the work under each pending ticket, its log, and the side of tiles that it was made with, in pixels, which no reply depends on.
pub record CoreView : Type 0 where
  pub table : Table
  pub kept : List (Option Value)
  pub work : List (Option Progress)
  pub log : List LogItem
  pub side : ℕ

-- the work under a ticket, if there is any
abbrev pub progress_at : List (Option Progress) → ℕ → Option Progress
progress_at work t = slice_index_or work t None

-- the tickets of the inputs of a ticket
abbrev pub inputs_of : Table → ℕ → List ℕ
inputs_of w t = tickets (submission_at w.submissions t).inputs

-- all inputs of the ticket's command are done, or released since
abbrev pub inputs_there : Table → ℕ → Bool
inputs_there w t = list_all (λ i. is_there (outcome_at w.outcomes i)) (inputs_of w t)

-- a pending entry has the ticket as an input
abbrev pub is_wanted : Table → ℕ → Bool
is_wanted w t =
    list_any (λ u. is_pending (outcome_at w.outcomes u) && list_any (nat_eq t) (inputs_of w u)) (range_with_len 0 (length w.names))

-- the values of the ticket's inputs
abbrev pub input_values : Machine → ℕ → List (Option Value)
input_values m t = map (value_at (values m)) (inputs_of m.table t)

-- the whole planes of the plan of a ticket
abbrev pub true_planes : Machine → ℕ → Progress → List Picture
true_planes m t p = planes p.plan (images_of (input_values m t)) p.width p.height

-- what a task makes, by the definitions
abbrev pub true_cells : Machine → ℕ → Progress → ℕ → List ℕ
true_cells m t p n = made_of_planes (planned_of p n).step (sources_of p (images_of (input_values m t)) (true_planes m t p) n) (tile_of_task p n)

-- The work under a pending ticket: its plan means its command, the images among its inputs have its frame and are its sources, its tiles cover the frame once, and what is kept of finished tasks is what they make by the definitions.
pub record IsWork (m : Machine) (t : ℕ) (p : Progress) : Type 0 where
  pub means : value_of_planes (submission_at m.table.submissions t).shape p.plan (true_planes m t p) ≡ value_at (values m) t
  pub frames : AllByRecursion (λ (f : Picture). (f.width ≡ p.width) × (f.height ≡ p.height)) (images_of (input_values m t))
  pub sources : (k : ℕ) → AllByRecursion (IsSourceAt (length (images_of (input_values m t))) k) (slice_index_or p.plan k nothing_planned).sources
  pub covers : CoverOnce p.tiles p.width p.height
  pub started : length p.started ≡ task_count p
  pub finished : length p.finished ≡ task_count p
  pub places : length p.placed ≡ task_count p
  pub small : task_count p ≤ TASK_LIMIT
  pub unfinished : 1 ≤ remaining_tasks p
  pub begun : (n : ℕ) → flag p.finished n ≡ true → flag p.started n ≡ true
  pub there : (n : ℕ) → flag p.started n ≡ true → inputs_there m.table t ≡ true
  pub placed : (n : ℕ) (cells : List ℕ) → slice_index_or p.placed n None ≡ Some cells → (flag p.finished n ≡ true) × (cells ≡ true_cells m t p n)
  pub needed : (n : ℕ) → flag p.finished n ≡ true → is_needed p n ≡ true → IsSome (slice_index_or p.placed n None)

-- What is kept agrees with a state of the machine: each kept value is that of a ticket that is done or released, all done ones are kept, and a released one is kept exactly where a pending entry has it as an input.
pub record Agrees (kept : List (Option Value)) (m : Machine) : Type 0 where
  pub payloads : length m.payloads ≡ length m.table.names
  pub own : (t : ℕ) (v : Value) → value_at kept t ≡ Some v → value_at (values m) t ≡ Some v
  pub there : (t : ℕ) (v : Value) → value_at kept t ≡ Some v → is_there (outcome_at m.table.outcomes t) ≡ true
  pub done : (t : ℕ) → t < length m.table.names → outcome_at m.table.outcomes t ≡ outcome.Done → IsSome (value_at kept t)
  pub released : (t : ℕ) → t < length m.table.names → outcome_at m.table.outcomes t ≡ outcome.Released → (IsSome (value_at kept t) ↔ (is_wanted m.table t ≡ true))

-- The core stands for this state of the machine.
pub record StandsFor (c : CoreView) (m : Machine) : Type 0 where
  -- its log, with the payloads of the state, is a run that ends there
  pub run : Run start_state c.log m
  pub table : c.table ≡ m.table
  pub agrees : Agrees c.kept m
  -- each pending ticket has its work, and no other has any
  pub work : (t : ℕ) → t < length m.table.names → outcome_at m.table.outcomes t ≡ outcome.Pending → (p : Progress) × (progress_at c.work t ≡ Some p) × IsWork m t p
  pub idle : (t : ℕ) (p : Progress) → progress_at c.work t ≡ Some p → outcome_at m.table.outcomes t ≡ outcome.Pending

-- ---- what is ready, running and left

-- the ticket is pending and its inputs are there, so that its tasks may run
abbrev pub may_run : Table → ℕ → Bool
may_run w t = is_pending (outcome_at w.outcomes t) && inputs_there w t

-- task n of ticket t is ready: the ticket is pending, its inputs are there, and the task is ready in its plan
abbrev pub is_ready_at : CoreView → ℕ → ℕ → Bool
is_ready_at c t n = may_run c.table t && option_map_or (λ p. nat_lt n (task_count p) && is_ready p n) (progress_at c.work t) false

-- how many tasks of the ticket are ready
abbrev pub ready_under : CoreView → ℕ → ℕ
ready_under c t = if may_run c.table t then option_map_or ready_tasks (progress_at c.work t) 0 else 0

-- how many tasks are ready
abbrev pub ready_count : CoreView → ℕ
ready_count c = sum (map (ready_under c) (range_with_len 0 (length c.table.names)))

-- how many tasks of pending tickets are running
abbrev pub running_count : CoreView → ℕ
running_count c = sum (map (λ t. option_map_or running_tasks (progress_at c.work t) 0) (range_with_len 0 (length c.table.names)))

-- how many tasks of a pending ticket are not finished
abbrev pub remaining_of : CoreView → ℕ → Option ℕ
remaining_of c t = option_map remaining_tasks (progress_at c.work t)
