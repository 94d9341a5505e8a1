-- Events on tasks of plans, for each machine that the core stands for.
use Rattle.std.proofs.Common.{◌≡◌, ◌≢◌, ℕ, ◌<◌, ◌≤◌, true, inl, inr, List, [], ◌∷◌, ◌++◌, length, set, Option, Some, None, refl, sym, ap, ◌∙◌, subst, arith}
use Rattle.std.proofs.lemmas.List.{get_or-set_same, get_or-set_other}
use Rattle.std.proofs.lemmas.Bool.{cases_eq, lt-ltb}
use Rattle.mw_model.specs.declared.calls.Outcome.TheVariants as outcome
use Rattle.mw_model.specs.declared.calls.LogItem.TheVariants as item
use Rattle.mw_model.specs.Pictures.{Picture}
use Rattle.mw_model.specs.Values.{Value, value_at}
use Rattle.mw_model.specs.Refusals.{Table, outcome_at, is_pending, is_there}
use Rattle.mw_model.specs.Machine.{Machine, values, CanFinish, settled}
use Rattle.mw_model.specs.Tasks.{Progress, task_count, planned_of, sources_of, is_ready, is_running, remaining_tasks}
use Rattle.mw_model.specs.Plans.{images_of}
use Rattle.mw_model.specs.Stands.{CoreView, StandsFor, IsWork, progress_at, inputs_of, inputs_there, input_values, true_planes, ready_under, is_ready_at, may_run}
use Rattle.mw_core_laws.specs.mw_step_task.WindowTasks.{WindowTask}
use Rattle.mw_core_laws.specs.mw_core_progress.ProgressView.{ProgressView, IsStarted, IsFinished}
use Rattle.mw_core_laws.specs.mw_store.Stored.{DropsSpent}
use Rattle.mw_core_laws.specs.Facts.{IsComplete}
use Rattle.mw_core_laws.specs.Works.{true_task}
use Rattle.mw_core_tasks.specs.SourceWindows.{AreSources, IsTaskOf}
use Rattle.mw_core_laws.specs.TaskEvents.{BeginsTask, IsResult, Places, Settles}
use Rattle.mw_core_laws.proofs.AgreeLemmas.{agrees-done}
use Rattle.mw_core_laws.proofs.KeptInputs.{all-there-list}
use Rattle.mw_core_laws.proofs.StandsLemmas.{stands-sound, stands-settled}
use Rattle.mw_core_laws.proofs.TaskLemmas.{stands-started}
use Rattle.mw_core_laws.proofs.TaskLemmas.{may-run}

-- ---- the true task

task-is-true : (m : Machine) (image : Option Picture) (t : ℕ) (u : ProgressView) (n : ℕ) (w : WindowTask) → IsTaskOf image t u n w
    → AreSources image u (planned_of u.progress n).sources (sources_of u.progress (images_of (input_values m t)) (true_planes m t u.progress) n) → w ≡ true_task m t u.progress n
task-is-true m image t u n w is sources = is (sources_of u.progress (images_of (input_values m t)) (true_planes m t u.progress) n) sources

-- ---- start

ready-here : (c : CoreView) (t : ℕ) (p : Progress) (n : ℕ) → may_run c.table t ≡ true → progress_at c.work t ≡ Some p → n < task_count p → is_ready p n ≡ true → is_ready_at c t n ≡ true
ready-here c t p n runs work within ready = rw (runs, work, lt-ltb n (task_count p) within) ready

pub begins : (c new : CoreView) (m : Machine) (t : ℕ) (u v : ProgressView) (n : ℕ) (image : Option Picture) (w : WindowTask) → StandsFor c m → IsComplete c → t < length c.table.names → 1 ≤ ready_under c t
    → progress_at c.work t ≡ Some u.progress → n < task_count u.progress → is_ready u.progress n ≡ true → IsWork m t v.progress → IsTaskOf image t u n w
    → AreSources image u (planned_of u.progress n).sources (sources_of u.progress (images_of (input_values m t)) (true_planes m t u.progress) n)
    → IsStarted u v n → new ≡ record c { work = set c.work t (Some v.progress) } → BeginsTask c m w new
begins c new m t u v n image w s complete within ready work in_plan is_ready after task sources started is =
    let true_is = task-is-true m image t u n w task sources in
    let P : WindowTask → Type 0 = λ d. BeginsTask c m d new in
    subst P (sym true_is) (record {
      progress = u.progress;
      number = n;
      within = within;
      work = work;
      ready = ready-here c t u.progress n (may-run c t ready) work in_plan is_ready;
      task = refl;
      started = is ∙ ap (λ p. record c { work = set c.work t (Some p) }) started.progress;
      stands = stands-started c new m t u.progress v.progress s complete within after work is;
    })

-- ---- finish

-- the result is that of a running task of the work
pub record IsResultOn (c : CoreView) (d : WindowTask) (u : ProgressView) (n : ℕ) : Type 0 where
  pub within : d.task.ticket < length c.table.names
  pub pending : outcome_at c.table.outcomes d.task.ticket ≡ outcome.Pending
  pub work : progress_at c.work d.task.ticket ≡ Some u.progress
  pub in_plan : n < task_count u.progress
  pub running : is_running u.progress n ≡ true

abbrev pub result-on : (c : CoreView) (m : Machine) (d : WindowTask) (u : ProgressView) (n : ℕ) → IsResultOn c d u n → d ≡ true_task m d.task.ticket u.progress n → IsResult c m d
result-on c m d u n r task = record {
  progress = u.progress;
  number = n;
  work = r.work;
  within = r.in_plan;
  running = r.running;
  task = task;
}

pub places : (c new : CoreView) (m : Machine) (d : WindowTask) (u v : ProgressView) (n : ℕ) (cells : List ℕ) → StandsFor c m → IsComplete c → (r : IsResultOn c d u n)
    → d ≡ true_task m d.task.ticket u.progress n → IsFinished u v n cells → IsWork m d.task.ticket v.progress → new ≡ record c { work = set c.work d.task.ticket (Some v.progress) } → Places c m d new
places c new m d u v n cells s complete r task done after is = record {
  result = result-on c m d u n r task;
  left = omega (arith, done.lowered, after.unfinished);
  after = v.progress;
  lowered = done.lowered;
  work = ap (λ (k : CoreView). k.work) is;
  finished = done.finished;
  started = done.started;
  plan = done.plan;
  tiles = done.tiles;
  width = done.width;
  height = done.height;
  log = ap (λ (k : CoreView). k.log) is;
  stands = stands-started c new m d.task.ticket u.progress v.progress s complete r.within after r.work is;
}

pub settles : (c new : CoreView) (m : Machine) (d : WindowTask) (u : ProgressView) (n : ℕ) (x : Value) → StandsFor c m → IsComplete c → IsResultOn c d u n → d ≡ true_task m d.task.ticket u.progress n
    → inputs_there m.table d.task.ticket ≡ true → remaining_tasks u.progress ≡ 1 → value_at (values m) d.task.ticket ≡ Some x
    → new.table ≡ settled c.table d.task.ticket outcome.Done → DropsSpent new.table (set c.kept d.task.ticket (Some x)) new.kept → new.work ≡ set c.work d.task.ticket None
    → new.log ≡ c.log ++ item.Finished d.task.ticket ∷ [] → Settles c m d d.task.ticket new
settles c new m d u n x s complete r task there last own table kept work log =
    let t = d.task.ticket in
    let sound = stands-sound c m s in
    let Named : Table → Type 0 = λ w. t < length w.names in
    let Pends : Table → Type 0 = λ w. outcome_at w.outcomes t ≡ outcome.Pending in
    let named : t < length m.table.names = subst Named s.table r.within in
    let within : t < length m.table.outcomes = omega (arith, named, sound.lengths.outcomes) in
    let can : CanFinish m.table t = record {
      within = within;
      pending = subst Pends s.table r.pending;
      inputs_there = all-there-list (λ i. is_there (outcome_at m.table.outcomes i)) (inputs_of m.table t) there;
    } in
    let in_work : t < length c.work = omega (arith, r.within, complete.work) in
    let in_kept : t < length c.kept = omega (arith, r.within, complete.stored.kept) in
    let gone : progress_at new.work t ≡ None = ap (λ ws. progress_at ws t) work ∙ get_or-set_same c.work t None None in_work in
    let others : (k : ℕ) → k ≢ t → progress_at new.work k ≡ progress_at c.work k = λ k e. ap (λ ws. progress_at ws k) work ∙ get_or-set_other c.work t k None None e in
    record {
      ticket = refl;
      result = result-on c m d u n r task;
      last = last;
      can = can;
      stands = stands-settled c new m t outcome.Done (set c.kept t (Some x)) (item.Finished t) complete s r.within refl refl (can, refl)
          (agrees-done c.kept m t x s.agrees in_kept within own) table kept log gone others;
      log = log;
      work = λ k l waits. elim (cases_eq k t) [
        | inl e ↦
            let stands : outcome_at (set c.table.outcomes t outcome.Done) t ≡ outcome.Done = get_or-set_same c.table.outcomes t outcome.Done outcome.Pending (omega (arith, r.within, complete.stored.outcomes)) in
            let here : outcome_at new.table.outcomes k ≡ outcome.Done = ap (λ w. outcome_at w.outcomes k) table ∙ rw e stands in
            let no = ap is_pending here in
            absurd cc
        | inr e ↦ others k e
      ];
    }
