-- The work under a ticket, as it is found, counted and taken.
use Rattle.std.proofs.Common.{◌≡◌, ℕ, ◌<◌, ◌*◌, ◌/◌, ◌%◌, Bool, true, false, cond, List, ◌++◌, length, map, get_or, set, take, Option, Some, None, Result, Ok, Err, IfOk, OnErr, refl, sym, ap, ◌∙◌, subst, arith}
use Rattle.std.specs.Prelude.{option_map}
use Rattle.std.specs.Option.{option_map_or}
use Rattle.std.proofs.Math.Seq.{take-append_seam}
use Rattle.std.proofs.lemmas.List.{get_or_read, set-get_or}
use Rattle.mw_model.specs.declared.calls.Outcome.TheVariants as outcome
use Rattle.mw_model.specs.declared.submissions.Submission.{Submission}
use Rattle.mw_model.specs.declared.tasks.TaskId.{TaskId}
use Rattle.mw_model.specs.Values.{image_of, value_at}
use Rattle.mw_model.specs.Refusals.{outcome_at, submission_at}
use Rattle.mw_model.specs.Stands.{may_run, progress_at, ready_under}
use Rattle.mw_model.specs.Tasks.{Progress, is_running, ready_tasks, remaining_tasks}
use Rattle.mw_grid.specs.Grids.{tile_count}
use Rattle.mw_core_tasks.specs.mw_step_task.WindowTasks.{WindowTask}
use Rattle.mw_core_tasks.specs.mw_core_progress.ProgressView.{ProgressView, IsWhole, number_of}
use Rattle.mw_core_tasks.proofs.mw_core_laws.Numbers.{length-tiles, number_of-numbers, number_of-within, some-whole, step_number-number_of, step_number-within, tile_number-number_of, tile_number-within}
use Rattle.mw_core_tasks.specs.mw_core_laws.TaskEvents.{IsUnderway}
use Rattle.mw_core_tasks.specs.Results.{IsFitOf, IsFoundOf, IsResultOf}
use Rattle.mw_core_tasks.specs.SourceWindows.{Takes}
use Rattle.mw_core_ledger.specs.Books.{Book, IsOrderly, progress_of, seen_of, work_at}
use Rattle.mw_core_ledger.specs.Tasks.{IsAtWork, IsFitAt, IsFoundAt, IsResultAt, TakesAt}
use Rattle.mw_core_ledger.proofs.OrderLemmas.{GoesOn, started-goes_on, with_work}
use Rattle.mw_core_ledger.proofs.SeenLemmas.{progress-seen, work-shown}

-- ---- what stands there

-- what a look at an index finds
pub found : (ws : List (Option ProgressView)) (t : ℕ) (o : Option ProgressView) (u : ProgressView) → t < length ws → o ≡ get_or ws t o → o ≡ Some u → work_at ws t ≡ Some u
found ws t o u l e is = sym (get_or_read ws t o l e None) ∙ is

-- a slice of all elements, written back
pub written-back : (n : ℕ) (ws xs : List (Option ProgressView)) → n ≡ length ws → take n (ws ++ xs) ≡ ws
written-back n ws xs e = rw e (take-append_seam ws xs)

-- ---- running tasks

-- there is such a task in the work, and it is running
abbrev pub Runs : ProgressView → TaskId → Type 0
Runs u k = (k.step < length u.progress.plan) × (k.tile < tile_count u.tiling) × (is_running u.progress (number_of u.progress k.step k.tile) ≡ true)

pub runs-underway : (b : Book) (k : TaskId) (u : ProgressView) → work_at b.in_progress k.ticket ≡ Some u → IsWhole u → Runs u k → IsUnderway (seen_of b) k
runs-underway b k u there whole r =
    let inside : k.tile < length u.progress.tiles = omega (arith, r.1, length-tiles u whole) in
    record {
      progress = u.progress;
      number = number_of u.progress k.step k.tile;
      work = progress-seen b.in_progress k.ticket u there;
      within = number_of-within u.progress k.step k.tile r.0 inside;
      running = r.2;
      step = sym (step_number-number_of u.progress k.step k.tile inside);
      tile = sym (tile_number-number_of u.progress k.step k.tile inside);
    }

pub underway-runs : (b : Book) (k : TaskId) (u : ProgressView) → work_at b.in_progress k.ticket ≡ Some u → IsWhole u → IsUnderway (seen_of b) k → Runs u k
underway-runs b k u there whole w =
    let told = progress-seen b.in_progress k.ticket u there in
    let work = w.work in
    let p = u.progress in
    let n = w.number in
    let same : w.progress ≡ p = cc in
    let some = some-whole u whole in
    let step : k.step ≡ n / length p.tiles = rw (← same) w.step in
    let tile : k.tile ≡ n % length p.tiles = rw (← same) w.tile in
    let within : n < length p.plan * length p.tiles = rw (← same) w.within in
    let running : is_running p n ≡ true = rw (← same) w.running in
    let number : number_of p k.step k.tile ≡ n = rw (step, tile) (number_of-numbers p n) in (
      omega (arith, step, step_number-within p n some within),
      omega (arith, tile, tile_number-within p n some, length-tiles u whole),
      rw number running,
    )

-- ---- ready tasks

run-ready : (may : Bool) (o : Option Progress) (place : ℕ) → place < cond may (option_map_or ready_tasks o 0) 0 → (p : Progress) × (o ≡ Some p) × (place < ready_tasks p)
run-ready true (Some p) place l = (p, refl, l)
run-ready true None place l = absurd (omega arith)
run-ready false o place l = absurd (omega arith)

-- a ready task is one of the work that stands there
pub ready-there : (b : Book) (t place : ℕ) (u : ProgressView) → work_at b.in_progress t ≡ Some u → place < ready_under (seen_of b) t → place < ready_tasks u.progress
ready-there b t place u there ready =
    let found = run-ready (may_run b.table t) (progress_at (map (option_map progress_of) b.in_progress) t) place ready in
    let told = progress-seen b.in_progress t u there in
    let is = found.1 in
    let same : found.0 ≡ u.progress = cc in
    rw (← same) found.2

-- its command has a first input
pub ready-first : (b : Book) (t place : ℕ) (s : Submission) → IsOrderly b → place < ready_under (seen_of b) t → s ≡ submission_at b.table.submissions t → s.inputs.a ≡ None → ⊥
ready-first b t place s o ready is none =
    let told = run-ready (may_run b.table t) (progress_at (map (option_map progress_of) b.in_progress) t) place ready in
    let there = work-shown b.in_progress t told.0 told.1 in
    let first = (o.planned t there.0 there.1).input.first in
    let same = ap (λ (e : Submission). e.inputs.a) is in
    absurd cc

-- ---- a task that is taken

goes_on-same : (u : ProgressView) (v : ProgressView) → v ≡ u → GoesOn u v × (remaining_tasks v.progress ≡ remaining_tasks u.progress)
goes_on-same u v e = (record { plan = ap (λ (w : ProgressView). w.progress.plan) e; tiles = ap (λ (w : ProgressView). w.progress.tiles) e; input = ap (λ (w : ProgressView). w.input) e; tiling = ap (λ (w : ProgressView). w.tiling) e }, ap (λ (w : ProgressView). remaining_tasks w.progress) e)

pub taken-goes_on : {E : Type 0} (b : Book) (t image : ℕ) (old : ProgressView) (n : ℕ) (new : ProgressView) (r : Result (Option WindowTask) E) → IfOk r (Takes (image_of (value_at b.kept image)) t old n new) → OnErr r (new ≡ old)
    → GoesOn old new × (remaining_tasks new.progress ≡ remaining_tasks old.progress)
taken-goes_on b t image old n new (Ok (Some w)) h s = (started-goes_on old new n h.started, ap (λ (p : Progress). remaining_tasks p) h.started.progress)
taken-goes_on b t image old n new (Ok None) h s = goes_on-same old new h.3
taken-goes_on b t image old n new (Err e) h s = goes_on-same old new s

pub takes-at : {E : Type 0} (b : Book) (t image : ℕ) (old : ProgressView) (n : ℕ) (new : ProgressView) (r : Result (Option WindowTask) E) → IsAtWork b t old image → IfOk r (Takes (image_of (value_at b.kept image)) t old n new)
    → IfOk r (TakesAt b t (with_work b t (Some new)))
takes-at b t image old n new (Ok w) at h = record { before = old; after = new; image = image; number = n; at = at; takes = h; book = refl }
takes-at b t image old n new (Err e) at h = tt

pub same-at : {E X : Type 0} (b : Book) (t : ℕ) (old new : ProgressView) (r : Result X E) → work_at b.in_progress t ≡ Some old → OnErr r (new ≡ old) → OnErr r (with_work b t (Some new) ≡ b)
same-at b t old new (Ok w) there h = tt
same-at b t old new (Err e) there h =
    let in_progress : set b.in_progress t (Some new) ≡ b.in_progress = ap (λ (u : ProgressView). set b.in_progress t (Some u)) h ∙ ap (λ (o : Option ProgressView). set b.in_progress t o) (sym there) ∙ set-get_or b.in_progress t None in
    ap (λ (ws : List (Option ProgressView)). record b { in_progress = ws }) in_progress

-- ---- results

-- where a result is one of the work under its ticket, it is one of the work and the image that a look finds there
pub found-of : (b : Book) (d : WindowTask) (k : TaskId) (image : ℕ) (u : ProgressView) → k ≡ d.task → work_at b.in_progress k.ticket ≡ Some u → (submission_at b.table.submissions k.ticket).inputs.a ≡ Some image → IsWhole u
    → IsFoundAt b d → IsFoundOf (image_of (value_at b.kept image)) u d
found-of b d k image u is there first whole f =
    let same = ap (λ (i : TaskId). work_at b.in_progress i.ticket) is in
    let also = ap (λ (i : TaskId). (submission_at b.table.submissions i.ticket).inputs.a) is in
    let work = f.at in
    let read = f.first in
    let w : f.progress ≡ u = cc in
    let i : f.image ≡ image = cc in
    let Read : ℕ → Type 0 = λ j. IsFoundOf (image_of (value_at b.kept j)) u d in
    let Of : ProgressView → Type 0 = λ v. IsWhole v → IsFoundOf (image_of (value_at b.kept f.image)) v d in
    subst Read i (subst Of w f.found whole)

-- a result of the work and the image that a look finds is one of the work under its ticket
pub fit-there : (b : Book) (d : WindowTask) (k : TaskId) (image : ℕ) (u : ProgressView) → k ≡ d.task → d.task.ticket < length b.table.names → outcome_at b.table.outcomes d.task.ticket ≡ outcome.Pending
    → work_at b.in_progress k.ticket ≡ Some u → (submission_at b.table.submissions k.ticket).inputs.a ≡ Some image → IsWhole u → IsFitOf u d → IsFitAt b d
fit-there b d k image u is within pending there first whole fit =
    let Work : TaskId → Type 0 = λ i. work_at b.in_progress i.ticket ≡ Some u in
    let First : TaskId → Type 0 = λ i. (submission_at b.table.submissions i.ticket).inputs.a ≡ Some image in
    record {
      progress = u;
      image = image;
      at = record { within = within; work = subst Work is there; whole = whole; first = subst First is first };
      pending = pending;
      fit = fit;
    }

pub result-there : (b : Book) (d : WindowTask) (k : TaskId) (image : ℕ) (u : ProgressView) → k ≡ d.task → d.task.ticket < length b.table.names → outcome_at b.table.outcomes d.task.ticket ≡ outcome.Pending
    → work_at b.in_progress k.ticket ≡ Some u → (submission_at b.table.submissions k.ticket).inputs.a ≡ Some image → IsWhole u → IsResultOf (image_of (value_at b.kept image)) u d → IsResultAt b d
unfolding fit-there
result-there b d k image u is within pending there first whole r =
    record { fits = fit-there b d k image u is within pending there first whole r.fit; task = r.task }
