-- What running work does.
use Rattle.std.specs.Prelude.{ℕ, ◌≡◌, ◌+◌, ◌≤◌, Bool, true, false, List, ◌++◌, map, sum, length}
use Rattle.std.specs.Option.{option_map_or}
use Rattle.std.specs.List.{range_with_len}
use Rattle.mw_model.specs.declared.calls.LogItem.{LogItem}
use Rattle.mw_model.specs.Machine.{Machine, Run}
use Rattle.mw_model.specs.Tasks.{remaining_tasks}
use Rattle.mw_model.specs.Stands.{CoreView, StandsFor, progress_at, running_count}
use Rattle.mw_model.specs.Scripts.{Works}
use Rattle.mw_core.specs.mw_core_laws.Counts.{NonePending}
use Rattle.mw_session_laws.specs.Marks.{OnlyWork, killed_in}

-- how many tasks are not finished
abbrev pub tasks_left : CoreView → ℕ
tasks_left c = sum (map (λ t. option_map_or remaining_tasks (progress_at c.work t) 0) (range_with_len 0 (length c.table.names)))

-- The log went on by work alone, and the machine with it. No task is running, and at least so many tasks fewer are left.
pub record Worked (m : Machine) (old new : CoreView) (done : ℕ) : Type 0 where
  pub items : List LogItem
  pub state : Machine
  pub log : new.log ≡ old.log ++ items
  pub side : new.side ≡ old.side
  pub only : OnlyWork items
  pub run : Run m items state
  pub stands : StandsFor new state
  pub idle : running_count new ≡ 0
  pub fewer : tasks_left new + done ≤ tasks_left old

-- tasks were run that were ready, or none is pending
abbrev pub Turned : Machine → CoreView → CoreView → Bool → Type 0
Turned m old new true = Worked m old new 1
Turned m old new false = (new ≡ old) × NonePending m.table

-- All work was run: the kills that the log tells came first, and then everything pending was done.
pub record AllWorked (m : Machine) (old new : CoreView) : Type 0 where
  pub items : List LogItem
  pub state : Machine
  pub log : new.log ≡ old.log ++ items
  pub side : new.side ≡ old.side
  pub only : OnlyWork items
  pub run : Run m items state
  pub works : Works true m (killed_in items) state
  pub stands : StandsFor new state
  pub idle : running_count new ≡ 0
