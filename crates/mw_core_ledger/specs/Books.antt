-- What a ledger shows, and what holds of it beside any machine.
use Rattle.std.specs.Prelude.{ℕ, ◌≡◌, ◌+◌, ◌-◌, ◌≤◌, List, [], length, map, count_by, Option, Some, None, option_map, slice_index_or}
use Rattle.mw_model.specs.declared.limits.TheConstants.{TASK_LIMIT}
use Rattle.mw_model.specs.declared.calls.LogItem.{LogItem}
use Rattle.mw_model.specs.declared.calls.Outcome.{Outcome}
use Rattle.mw_model.specs.declared.calls.Outcome.TheVariants as outcome
use Rattle.mw_model.specs.Values.{Value}
use Rattle.mw_model.specs.Refusals.{Table, is_pending, outcome_at}
use Rattle.mw_model.specs.Stands.{CoreView}
use Rattle.mw_model.specs.Tasks.{Progress, remaining_tasks, task_count}
use Rattle.mw_core_tasks.specs.mw_core_progress.ProgressView.{ProgressView}
use Rattle.mw_core_tasks.specs.mw_store.Stored.{Stored, StoreIsWhole}
use Rattle.mw_core_tasks.specs.mw_core_laws.Limits.{ShapesFit}
use Rattle.mw_core_tasks.specs.Planning.{IsPlannedAt}

-- What a ledger shows: its table, the value that it keeps of each ticket, the work under each, with the planes that its tasks have made, its log, the side of its tiles in pixels, and how many more items find a place in the log without memory being asked for.
pub record Book : Type 0 where
  pub table : Table
  pub kept : List (Option Value)
  pub in_progress : List (Option ProgressView)
  pub log : List LogItem
  pub side : ℕ
  pub room : ℕ

-- the work under a ticket, if there is any
abbrev pub work_at : List (Option ProgressView) → ℕ → Option ProgressView
work_at in_progress t = slice_index_or in_progress t None

-- what is known of the tasks of work, without its planes
abbrev pub progress_of : ProgressView → Progress
progress_of u = u.progress

-- what a core shows of it
abbrev pub seen_of : Book → CoreView
seen_of b = record { table = b.table; kept = b.kept; work = map (option_map progress_of) b.in_progress; log = b.log; side = b.side }

-- the part that its store shows
abbrev pub stored_in : Book → Stored
stored_in b = record { table = b.table; kept = b.kept }

-- nothing was accepted yet
abbrev pub empty_book : ℕ → Book
empty_book side = record { table = record { names = []; submissions = []; outcomes = [] }; kept = []; in_progress = []; log = []; side = side; room = 16 }

-- the places of a log that no item has, and that are not kept for the ends of pending entries
abbrev pub room_in : ℕ → ℕ → List Outcome → ℕ
room_in capacity len outcomes = capacity - (len + count_by is_pending outcomes)

-- The store is whole, each shape is within the limits, there is a place for work with each name, and what stands there is under a pending ticket, is planned for it, is not finished, and has at most 4,194,304 tasks.
pub record IsOrderly (b : Book) : Type 0 where
  pub stored : StoreIsWhole (stored_in b)
  pub in_progress : length b.in_progress ≡ length b.table.names
  pub fits : ShapesFit b.table
  pub under : (t : ℕ) (u : ProgressView) → work_at b.in_progress t ≡ Some u → outcome_at b.table.outcomes t ≡ outcome.Pending
  pub planned : (t : ℕ) (u : ProgressView) → work_at b.in_progress t ≡ Some u → IsPlannedAt b.table t u
  pub left : (t : ℕ) (u : ProgressView) → work_at b.in_progress t ≡ Some u → 1 ≤ remaining_tasks u.progress
  pub most : (t : ℕ) (u : ProgressView) → work_at b.in_progress t ≡ Some u → task_count u.progress ≤ TASK_LIMIT
