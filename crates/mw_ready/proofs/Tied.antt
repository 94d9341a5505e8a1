-- The tasks of a board are those of the work that it shows.
use Rattle.std.proofs.Common.{◌≡◌, ℕ, ◌*◌, ◌/◌, ◌%◌, ◌<◌, Bool, not, ◌&&◌, ◌||◌, List, length, ap, sym, ◌∙◌, get_or}
use Rattle.std.specs.List.{range_with_len, list_all, list_any}
use Rattle.std.proofs.lemmas.Nat.{mod_below}
use Rattle.mw_model.proofs.mw_facts.Counts.{count_by-same}
use Rattle.mw_model.specs.declared.offsets.Reach.{Reach}
use Rattle.mw_model.specs.declared.offsets.Rect.{Rect}
use Rattle.mw_model.specs.Rectangles.{grown}
use Rattle.mw_model.specs.Rectangles as places
use Rattle.mw_model.specs.Elements.{reach_of}
use Rattle.mw_model.specs.PlanSteps.{looks_at}
use Rattle.mw_model.specs.Plans.{Planned}
use Rattle.mw_model.specs.Tasks as tasks
use Rattle.mw_model.specs.Tasks.{Progress, nothing_planned, is_step, flag, meets}
use Rattle.mw_grid.specs.Grids.{tile_count}
use Rattle.mw_grid.proofs.Tiles.{length-tiles_of, tile_of-tiles_of, some_tiles}
use Rattle.mw_ready.specs.Boards.{Schedule, step_reads, need_of, step_on_grid, tile_on_grid, place_by_needs, reads_by_needs, task_count_on, is_ready_on, is_running_on}
use Rattle.mw_ready.specs.Work.{IsBoardOf, SameTasks}
use Rattle.mw_grid.specs.Counts.{count_below}
use Rattle.mw_ready.proofs.Counts.{all-same}
use Rattle.mw_ready.proofs.Raising.{step_below}

tiles_number : (b : Schedule) (p : Progress) → IsBoardOf b p → length p.tiles ≡ tile_count b.grid
tiles_number b p of = ap (λ (ts : List Rect). length ts) of.tiles ∙ length-tiles_of b.grid

planned_is : (b : Schedule) (p : Progress) (n : ℕ) → IsBoardOf b p → tasks.planned_of p n ≡ get_or p.plan (step_on_grid b.grid n) nothing_planned
planned_is b p n of = ap (λ (m : ℕ). get_or p.plan (n / m) nothing_planned) (tiles_number b p of)

tile_is : (b : Schedule) (p : Progress) (n : ℕ) → IsBoardOf b p → tasks.tile_of_task p n ≡ tile_on_grid b.grid n
tile_is b p n of =
    ap (λ (m : ℕ). places.tile_of p.tiles (n % m)) (tiles_number b p of)
    ∙ ap (λ (ts : List Rect). places.tile_of ts (n % tile_count b.grid)) of.tiles
    ∙ tile_of-tiles_of b.grid (n % tile_count b.grid) (mod_below n (tile_count b.grid) (some_tiles b.grid))

place_is : (b : Schedule) (p : Progress) (n : ℕ) → IsBoardOf b p → n < task_count_on b → tasks.place_of_task p n ≡ place_by_needs b.needs b.grid n
place_is b p n of lt =
    let need = of.needs (step_on_grid b.grid n) (step_below b.grid (length b.needs) n lt) in
    ap (λ (s : Planned). grown p.width p.height (reach_of (looks_at s.step)) (tasks.tile_of_task p n)) (planned_is b p n of)
    ∙ ap (λ (r : Reach). grown p.width p.height r (tasks.tile_of_task p n)) (sym need.reach)
    ∙ ap (λ (w : ℕ). grown w p.height (need_of b.needs b.grid n).reach (tasks.tile_of_task p n)) of.width
    ∙ ap (λ (h : ℕ). grown b.grid.width h (need_of b.needs b.grid n).reach (tasks.tile_of_task p n)) of.height
    ∙ ap (grown b.grid.width b.grid.height (need_of b.needs b.grid n).reach) (tile_is b p n of)

reads_is : (b : Schedule) (p : Progress) (n u : ℕ) → IsBoardOf b p → n < task_count_on b → tasks.reads p n u ≡ reads_by_needs b.needs b.grid n u
reads_is b p n u of lt =
    let need = of.needs (step_on_grid b.grid n) (step_below b.grid (length b.needs) n lt) in
    ap (λ (s : Planned). list_any (is_step (tasks.step_number p u)) s.sources && meets (tasks.place_of_task p n) (tasks.tile_of_task p u)) (planned_is b p n of)
    ∙ ap (λ (v : Bool). v && meets (tasks.place_of_task p n) (tasks.tile_of_task p u)) (sym (need.steps (tasks.step_number p u)))
    ∙ ap (λ (m : ℕ). step_reads (need_of b.needs b.grid n) (u / m) && meets (tasks.place_of_task p n) (tasks.tile_of_task p u)) (tiles_number b p of)
    ∙ ap (λ (r : Rect). step_reads (need_of b.needs b.grid n) (step_on_grid b.grid u) && meets r (tasks.tile_of_task p u)) (place_is b p n of lt)
    ∙ ap (λ (r : Rect). step_reads (need_of b.needs b.grid n) (step_on_grid b.grid u) && meets (place_by_needs b.needs b.grid n) r) (tile_is b p u of)

count_is : (b : Schedule) (p : Progress) → IsBoardOf b p → tasks.task_count p ≡ task_count_on b
count_is b p of = ap (λ (k : ℕ). k * length p.tiles) of.steps ∙ ap (λ (k : ℕ). length b.needs * k) (tiles_number b p of)

ready_is : (b : Schedule) (p : Progress) (n : ℕ) → IsBoardOf b p → n < task_count_on b → tasks.is_ready p n ≡ is_ready_on b n
ready_is b p n of lt =
    ap (λ (s : List Bool). not (flag s n) && list_all (λ u. not (tasks.reads p n u) || flag p.finished u) (tasks.tasks_below p)) of.started
    ∙ ap (λ (f : List Bool). not (flag b.started n) && list_all (λ u. not (tasks.reads p n u) || flag f u) (tasks.tasks_below p)) of.finished
    ∙ ap (λ (m : ℕ). not (flag b.started n) && list_all (λ u. not (tasks.reads p n u) || flag b.finished u) (range_with_len 0 m)) (count_is b p of)
    ∙ ap (λ (v : Bool). not (flag b.started n) && v) (all-same (λ u. not (tasks.reads p n u) || flag b.finished u) (λ u. not (reads_by_needs b.needs b.grid n u) || flag b.finished u) (task_count_on b) (λ u u-lt. ap (λ (v : Bool). not v || flag b.finished u) (reads_is b p n u of lt)))

running_is : (b : Schedule) (p : Progress) (n : ℕ) → IsBoardOf b p → tasks.is_running p n ≡ is_running_on b n
running_is b p n of = ap (λ (s : List Bool). flag s n && not (flag p.finished n)) of.started ∙ ap (λ (f : List Bool). flag b.started n && not (flag f n)) of.finished

pub same_tasks : (b : Schedule) (p : Progress) → IsBoardOf b p → SameTasks b p
same_tasks b p of = record {
  count = count_is b p of;
  reads = λ n u lt. reads_is b p n u of lt;
  ready = λ n lt. ready_is b p n of lt;
  running = λ n. running_is b p n of;
  ready_tasks = ap (λ (m : ℕ). count_below (tasks.is_ready p) m) (count_is b p of) ∙ count_by-same (tasks.is_ready p) (is_ready_on b) (task_count_on b) (λ n lt. ready_is b p n of lt);
  running_tasks = ap (λ (m : ℕ). count_below (tasks.is_running p) m) (count_is b p of) ∙ count_by-same (tasks.is_running p) (is_running_on b) (task_count_on b) (λ n lt. running_is b p n of);
  remaining_tasks = ap (λ (m : ℕ). count_below (λ n. not (flag p.finished n)) m) (count_is b p of) ∙ ap (λ (f : List Bool). count_below (λ n. not (flag f n)) (task_count_on b)) of.finished;
}
