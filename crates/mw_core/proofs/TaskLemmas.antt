-- Events on tasks: what a ledger does with one is what the core does, for each machine that it stands for.
use Rattle.std.specs.Prelude.{option_map}
use Rattle.std.proofs.Common.{◌≡◌, ℕ, ◌<◌, ◌≤◌, true, List, length, set, Option, Some, None, ap, ◌∙◌, subst}
use Rattle.std.proofs.lemmas.List.{length-map, map-set}
use Rattle.mw_model.specs.declared.calls.Outcome.TheVariants as outcome
use Rattle.mw_model.specs.Values.{image_of, value_at}
use Rattle.mw_model.specs.Refusals.{Table, outcome_at}
use Rattle.mw_model.specs.Machine.{Machine}
use Rattle.mw_model.specs.Plans.{images_of}
use Rattle.mw_model.specs.Tasks.{Progress, planned_of, sources_of, task_count}
use Rattle.mw_model.specs.Stands.{CoreView, StandsFor, inputs_there, input_values, ready_under, true_planes}
use Rattle.mw_core_refusals.specs.mw_step_task.WindowTasks.{WindowTask}
use Rattle.mw_core_ledger.specs.mw_core_progress.ProgressView.{ProgressView}
use Rattle.mw_core_ledger.specs.mw_core_laws.Works.{IsTrueWork, IsUnder}
use Rattle.mw_core_ledger.proofs.mw_core_laws.Going.{true-under, under-started}
use Rattle.mw_core_ledger.proofs.mw_core_laws.Numbers.{some-whole, step_number-within}
use Rattle.mw_core_ledger.proofs.mw_core_laws.Truth.{plane-true}
use Rattle.mw_core_ledger.proofs.mw_core_laws.Windows.{true_task-fits}
use Rattle.mw_core_ledger.specs.mw_core_laws.Facts.{IsComplete}
use Rattle.mw_core_ledger.specs.mw_core_laws.TaskEvents.{BeginsTask}
use Rattle.mw_core_ledger.proofs.mw_core_laws.StandsLemmas.{stands-sound}
use Rattle.mw_core_ledger.proofs.mw_core_laws.TaskLemmas.{ready-there, work-of}
use Rattle.mw_core_ledger.specs.mw_core_tasks.Planning.{IsPlannedAt}
use Rattle.mw_core_ledger.specs.mw_core_tasks.SourceWindows.{AreSources}
use Rattle.mw_core_ledger.proofs.mw_core_tasks.PlanTaskLemmas.{begins}
use Rattle.mw_core_ledger.proofs.mw_core_tasks.PlannedAtLemmas.{planned-at}
use Rattle.mw_core_ledger.proofs.mw_core_tasks.SourceTrueLemmas.{ReadsKept, reads-kept, sources-true}
use Rattle.mw_core_ledger.specs.Books.{Book, IsOrderly, progress_of, seen_of}
use Rattle.mw_core_ledger.specs.Tasks.{IsAtWork, TakesAt}
use Rattle.mw_core_ledger.proofs.SeenLemmas.{progress-seen}

-- ---- what a core shows of a ledger

pub complete-seen : (b : Book) → IsOrderly b → IsComplete (seen_of b)
complete-seen b orderly = record { stored = orderly.stored; work = length-map b.in_progress (option_map progress_of) ∙ orderly.in_progress }

-- other work under one ticket
pub seen-set : (b new : Book) (t : ℕ) (x : Option ProgressView) → new ≡ record b { in_progress = set b.in_progress t x } → seen_of new ≡ (let c : CoreView = seen_of b in record c { work = set c.work t (option_map progress_of x) })
seen-set b new t x is = ap seen_of is ∙ ap (λ (ws : List (Option Progress)). let c : CoreView = seen_of b in record c { work = ws }) (map-set (option_map progress_of) b.in_progress t x)

-- ---- what is known of the work under a pending ticket

pub under-work : (b : Book) (m : Machine) (t : ℕ) (u : ProgressView) (image : ℕ) → StandsFor (seen_of b) m → IsOrderly b → IsAtWork b t u image → outcome_at b.table.outcomes t ≡ outcome.Pending → IsUnder m t u
under-work b m t u image s orderly at pending =
    let c : CoreView = seen_of b in
    let Named : Table → Type 0 = λ w. t < length w.names in
    let Planned : Table → Type 0 = λ w. IsPlannedAt w t u in
    record {
      whole = at.whole;
      planned = planned-at m t u (stands-sound c m s) (subst Named s.table at.within) (subst Planned s.table (orderly.planned t u at.work)) at.whole;
      work = work-of c m t u.progress s at.within pending (progress-seen b.in_progress t u at.work);
    }

-- the sources that are kept are those by the definitions
sources-here : (c : CoreView) (m : Machine) (t : ℕ) (u : ProgressView) (n image : ℕ) → ReadsKept c m t u image → IsTrueWork m t u → n < task_count u.progress
    → AreSources (image_of (value_at c.kept image)) u (planned_of u.progress n).sources (sources_of u.progress (images_of (input_values m t)) (true_planes m t u.progress) n)
sources-here c m t u n image reads work within =
    sources-true c m t u n image reads work.whole (step_number-within u.progress n (some-whole u work.whole) within) (λ j l. plane-true m t u j work l)

-- what the work of a ticket that may run reads
reads-first : (b : Book) (m : Machine) (t : ℕ) (u : ProgressView) (image : ℕ) → StandsFor (seen_of b) m → IsOrderly b → IsAtWork b t u image → outcome_at b.table.outcomes t ≡ outcome.Pending
    → inputs_there m.table t ≡ true → ReadsKept (seen_of b) m t u image
reads-first b m t u image s orderly at pending there =
    let c : CoreView = seen_of b in
    let reads = (orderly.planned t u at.work).input in
    let same : reads.image ≡ image = cc (reads.first, at.first) in
    let Reads : ℕ → Type 0 = λ i. ReadsKept c m t u i in
    subst Reads same (reads-kept c m t u s at.within pending there reads)

-- ---- a task is taken

pub takes-begins : (b new : Book) (m : Machine) (t : ℕ) (w : WindowTask) → StandsFor (seen_of b) m → IsOrderly b → 1 ≤ ready_under (seen_of b) t → TakesAt b t new (Some w)
    → BeginsTask (seen_of b) m w (seen_of new)
takes-begins b new m t w s orderly ready took =
    let c : CoreView = seen_of b in
    let u = took.before in
    let v = took.after in
    let n = took.number in
    let one = took.takes in
    let able = ready-there c m t s ready in
    let under = under-work b m t u took.image s orderly took.at able.0 in
    let next = under-started m t u v n under able.1 one.whole one.started in
    let sources = sources-here c m t u n took.image (reads-first b m t u took.image s orderly took.at able.0 able.1) (true-under m t u under) one.within in
    begins c (seen_of new) m t u v n (image_of (value_at b.kept took.image)) w s (complete-seen b orderly) took.at.within ready (progress-seen b.in_progress t u took.at.work) one.within one.ready next.work one.task sources one.started
    (seen-set b new t (Some v) took.book)

-- a task that is ready has windows that fit its step
pub takes-some : (b new : Book) (m : Machine) (t : ℕ) → StandsFor (seen_of b) m → IsOrderly b → 1 ≤ ready_under (seen_of b) t → TakesAt b t new None → ⊥
takes-some b new m t s orderly ready took =
    let c : CoreView = seen_of b in
    let u = took.before in
    let n = took.number in
    let none = took.takes in
    let able = ready-there c m t s ready in
    let work = true-under m t u (under-work b m t u took.image s orderly took.at able.0) in
    let sources = sources-here c m t u n took.image (reads-first b m t u took.image s orderly took.at able.0 able.1) work none.0 in
    none.2 (sources_of u.progress (images_of (input_values m t)) (true_planes m t u.progress) n) sources (true_task-fits m t u n work none.0)
