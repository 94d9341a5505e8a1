-- A board beside the work under a ticket.
use Rattle.std.specs.Prelude.{◌≡◌, ℕ, ◌<◌, length, slice_index_or}
use Rattle.std.specs.List.{list_any}
use Rattle.mw_model.specs.Elements.{reach_of}
use Rattle.mw_model.specs.PlanSteps.{looks_at}
use Rattle.mw_model.specs.Plans.{Planned}
use Rattle.mw_model.specs.Tasks as tasks
use Rattle.mw_model.specs.Tasks.{Progress, nothing_planned, is_step}
use Rattle.mw_grid.specs.Grids.{tiles_of}
use Rattle.mw_ready.specs.declared.need.Need.{Need}
use Rattle.mw_ready.specs.Boards.{Schedule, step_reads, no_need, task_count_on, reads_by_needs, is_ready_on, is_running_on, ready_tasks_on, running_tasks_on, remaining_tasks_on}

-- the need is that of a planned step: its reach, and the steps among its sources
pub record IsNeedOf (n : Need) (q : Planned) : Type 0 where
  pub reach : n.reach ≡ reach_of (looks_at q.step)
  pub steps : (k : ℕ) → step_reads n k ≡ list_any (is_step k) q.sources

-- the board shows the work: the needs of its plan, its frame and tiles, and the same tasks started and finished
pub record IsBoardOf (b : Schedule) (p : Progress) : Type 0 where
  pub width : p.width ≡ b.grid.width
  pub height : p.height ≡ b.grid.height
  pub tiles : p.tiles ≡ tiles_of b.grid
  pub steps : length p.plan ≡ length b.needs
  pub needs : (k : ℕ) → k < length b.needs → IsNeedOf (slice_index_or b.needs k no_need) (slice_index_or p.plan k nothing_planned)
  pub started : p.started ≡ b.started
  pub finished : p.finished ≡ b.finished

-- the tasks of a board are those of the work: as many, with the same reading what, and the same ready, running and left
pub record SameTasks (b : Schedule) (p : Progress) : Type 0 where
  pub count : tasks.task_count p ≡ task_count_on b
  pub reads : (n u : ℕ) → n < task_count_on b → tasks.reads p n u ≡ reads_by_needs b.needs b.grid n u
  pub ready : (n : ℕ) → n < task_count_on b → tasks.is_ready p n ≡ is_ready_on b n
  pub running : (n : ℕ) → tasks.is_running p n ≡ is_running_on b n
  pub ready_tasks : tasks.ready_tasks p ≡ ready_tasks_on b
  pub running_tasks : tasks.running_tasks p ≡ running_tasks_on b
  pub remaining_tasks : tasks.remaining_tasks p ≡ remaining_tasks_on b
