-- The steps of a wave: what is known while several tasks are running.
use Rattle.std.proofs.Common.{◌≡◌, ◌≢◌, ℕ, ◌+◌, ◌/◌, ◌%◌, ◌<◌, ◌≤◌, Bool, true, false, ◌⊎◌, inl, inr, Ok, Err, List, [], ◌∷◌, ◌++◌, length, set, Some, None, refl, sym, ap, ◌∙◌, subst, arith, append_assoc}
use Rattle.std.specs.Prelude.{◌&&◌, not, nat_lt, Result}
use Rattle.std.specs.Option.{option_map_or}
use Rattle.std.specs.List.{range_with_len, count_by, AllByRecursion, AllZip}
use Rattle.std.proofs.lemmas.Bool.{cases_lt, cases_Bool, cases_eq, not-true, and_parts}
use Rattle.std.proofs.lemmas.List.{append-nil, get_or-set_same, get_or-set_other}
use Rattle.mw_model.proofs.mw_facts.Finds.{option_cases}
use Rattle.mw_model.proofs.mw_facts.Counts.{count_by-some, count_by-none}
use Rattle.mw_model.specs.declared.calls.Outcome.TheVariants as outcome
use Rattle.mw_model.specs.declared.calls.LogItem.{LogItem}
use Rattle.mw_model.specs.declared.calls.LogItem.TheVariants as item
use Rattle.mw_model.specs.declared.tasks.TaskId.{TaskId}
use Rattle.mw_model.specs.Refusals.{Table, outcome_at, is_pending}
use Rattle.mw_model.specs.Machine.{Machine, Run, with_table, killed, settled}
use Rattle.mw_model.specs.Tasks.{Progress, task_count, flag, is_ready, is_running, running_tasks, remaining_tasks}
use Rattle.mw_model.specs.Stands.{CoreView, StandsFor, progress_at, may_run, running_count}
use Rattle.mw_session_laws.proofs.mw_model_laws.RunCascade.{is_killed}
use Rattle.mw_session_laws.proofs.mw_model_laws.RunStates.{reached}
use Rattle.mw_session_laws.proofs.mw_model_laws.RunReplay.{run_join}
use Rattle.mw_step.specs.mw_step_task.WindowTasks.{WindowTask}
use Rattle.mw_step.specs.mw_step_task.declared.done.TaskRefused.{TaskRefused}
use Rattle.mw_core.specs.mw_core_laws.Works.{true_task}
use Rattle.mw_core.specs.mw_core_laws.Events.{WorkStays}
use Rattle.mw_core.specs.mw_core_laws.TaskEvents.{Kills, BeginsTask, IsResult, IsUnderway, Settles, Places, IsSettled}
use Rattle.mw_core.proofs.mw_core_laws.CountLemmas.{sum-at}
use Rattle.mw_core.proofs.mw_core_laws.TaskLemmas.{has-place, same-number, same-plan}
use Rattle.mw_core.specs.TaskAnswers.{Starts, AnswersFinish, IsOwn, AnswersRefusal}
use Rattle.mw_core.specs.declared.answers.Started.{Started}
use Rattle.mw_core.specs.declared.answers.Started.TheVariants as started
use Rattle.mw_core.specs.declared.answers.Finish.{Finish}
use Rattle.mw_core.specs.declared.answers.Finish.TheVariants as finish
use Rattle.mw_core.specs.declared.answers.Refusal.{Refusal}
use Rattle.mw_core.specs.declared.answers.Refusal.TheVariants as refusal
use Rattle.mw_session_laws.specs.Marks.{OnlyWork}
use Rattle.mw_core_waves.specs.Work.{tasks_left, Worked}
use Rattle.mw_core_waves.proofs.Totals.{total, total-falls, total-le, total-zero, count-falls}
use Rattle.mw_session_laws.proofs.Finishing.{only_append}
use Rattle.mw_core_waves.specs.declared.job.WaveTask.{WaveTask}
use Rattle.mw_core_waves.specs.declared.job.WaveTask.TheVariants as job
use Rattle.mw_core_waves.specs.Jobs.{IsAnswerTo, IsOf, HasTask, IsAnswered, IsKept}
use Rattle.mw_core_waves.specs.Waves.{GoneOn, IsTrueAnswer, IsTrueJob, IsTrueTask, Runs, Underway, Took}
use Rattle.mw_core_waves.proofs.TicketCounts.{under, over_all-falls, work-under, count-under}
use Rattle.mw_core_waves.proofs.Jobs.{all-last, still-answers, has-kept, has-last, kept-beside}

-- ---- tasks that are running

-- a task reads the submissions and the payloads of a machine, and no outcome
same-task : (m n : Machine) (t : ℕ) (p : Progress) (k : ℕ) → n.table.submissions ≡ m.table.submissions → n.payloads ≡ m.payloads → true_task n t p k ≡ true_task m t p k
same-task m n t p k e f = rw (e, f) refl

-- one that is running is counted
runs-counted : (c : CoreView) (t k : ℕ) (p : Progress) → Runs c t k p → 1 ≤ running_count c
runs-counted c t k p r =
    omega (arith, count-under running_tasks c t p r.work, count_by-some (is_running p) (task_count p) k r.number r.runs, sum-at (under running_tasks c) (length c.table.names) t r.within)

-- where none is, none is counted
none-counted : (c : CoreView) → ((t k : ℕ) (p : Progress) → Runs c t k p → ⊥) → running_count c ≡ 0
none-counted c none = total-zero (under running_tasks c) (length c.table.names) (λ t l. elim (option_cases (progress_at c.work t)) [
  | inl e ↦ ap (λ o. option_map_or running_tasks o 0) e
  | inr has ↦ count-under running_tasks c t has.0 has.1 ∙ count_by-none (is_running has.0) 0 (task_count has.0) (λ k from b. elim (cases_Bool (is_running has.0 k)) [
    | inl runs ↦ absurd (none t k has.0 (record { within = l; work = has.1; number = omega (arith, b); runs = runs }))
    | inr rests ↦ rests
  ])
])

-- the ticket of a running task is pending
runs-pending : (c : CoreView) (m : Machine) (t k : ℕ) (p : Progress) → StandsFor c m → Runs c t k p → is_pending (outcome_at c.table.outcomes t) ≡ true
runs-pending c m t k p s r = ap (λ (w : Table). is_pending (outcome_at w.outcomes t)) s.table ∙ ap is_pending (s.idle t p r.work)

-- the task was running before, and is the same task
record Ran (c : CoreView) (m : Machine) (t k : ℕ) (w : WindowTask) : Type 0 where
  progress : Progress
  runs : Runs c t k progress
  task : w ≡ true_task m t progress k

-- there was work under the ticket before, and its tasks are the same
record WasThere (c : CoreView) (m : Machine) (t : ℕ) (task : ℕ → WindowTask) : Type 0 where
  progress : Progress
  within : t < length c.table.names
  work : progress_at c.work t ≡ Some progress
  same : (k : ℕ) → task k ≡ true_task m t progress k

-- ---- tasks that end

-- The task of these numbers is not running any more, or was not; each that is running was.
record Ended (c : CoreView) (m : Machine) (id : TaskId) (new : CoreView) : Type 0 where
  items : List LogItem
  state : Machine
  log : new.log ≡ c.log ++ items
  only : OnlyWork items
  run : Run m items state
  stands : StandsFor new state
  less : tasks_left new + 1 ≤ tasks_left c
  ran : (t k : ℕ) (p : Progress) → Runs new t k p → Ran c m t k (true_task state t p k)
  kept : (t : ℕ) (p : Progress) → t < length new.table.names → progress_at new.work t ≡ Some p → WasThere c m t (true_task state t p)
  other : (t k : ℕ) (p : Progress) → Runs new t k p → (true_task state t p k).task ≡ id → ⊥

-- what was running, where work stays or goes
stays-ran : (c new : CoreView) (m n : Machine) → StandsFor new n → WorkStays c new → length new.table.names ≡ length c.table.names → n.table.submissions ≡ m.table.submissions → n.payloads ≡ m.payloads
    → (t k : ℕ) (p : Progress) → Runs new t k p → Ran c m t k (true_task n t p k)
stays-ran c new m n s stays long es ep t k p r =
    let within : t < length c.table.names = omega (arith, long, r.within) in
    let work : progress_at c.work t ≡ Some p = sym (stays t within (runs-pending new n t k p s r)) ∙ r.work in
    record { progress = p; runs = record { within = within; work = work; number = r.number; runs = r.runs }; task = same-task m n t p k es ep }

stays-there : (c new : CoreView) (m n : Machine) → StandsFor new n → WorkStays c new → length new.table.names ≡ length c.table.names → n.table.submissions ≡ m.table.submissions → n.payloads ≡ m.payloads
    → (t : ℕ) (p : Progress) → t < length new.table.names → progress_at new.work t ≡ Some p → WasThere c m t (true_task n t p)
stays-there c new m n s stays long es ep t p l there =
    let within : t < length c.table.names = omega (arith, long, l) in
    let pends : is_pending (outcome_at new.table.outcomes t) ≡ true = ap (λ (w : Table). is_pending (outcome_at w.outcomes t)) s.table ∙ ap is_pending (s.idle t p there) in
    record { progress = p; within = within; work = sym (stays t within pends) ∙ there; same = λ k. same-task m n t p k es ep }

-- a settled ticket has no task that is running
settled-other : (new : CoreView) (n : Machine) (t : ℕ) (id : TaskId) → StandsFor new n → id.ticket ≡ t → is_pending (outcome_at n.table.outcomes t) ≡ false
    → (u k : ℕ) (p : Progress) → Runs new u k p → (true_task n u p k).task ≡ id → ⊥
settled-other new n t id s named settled_now u k p r e =
    let same : u ≡ t = ap (λ (x : TaskId). x.ticket) e ∙ named in
    let pends : is_pending (outcome_at n.table.outcomes u) ≡ true = ap is_pending (s.idle u p r.work) in
    let not_so : is_pending (outcome_at n.table.outcomes u) ≡ false = ap (λ x. is_pending (outcome_at n.table.outcomes x)) same ∙ settled_now in
    absurd cc

kills-ended : (c new : CoreView) (m : Machine) (t : ℕ) (id : TaskId) → StandsFor c m → id.ticket ≡ t → Kills c m t new → Ended c m id new
kills-ended c new m t id s named k =
    let sound = reached c.log m s.run in
    let names = ap (λ (w : Table). length w.names) s.table in
    let within : t < length c.table.names = omega (arith, names, sound.lengths.outcomes, k.can.within) in
    let n = with_table m (killed m.table t outcome.Memory) in
    let is = is_killed m.table t outcome.Memory (omega (arith, sound.lengths.submissions, sound.lengths.outcomes)) (λ u h. sound.inputs u (omega (arith, h, sound.lengths.outcomes))) k.can.within refl in
    let long : length new.table.names ≡ length c.table.names = ap (λ (w : Table). length w.names) k.stands.table ∙ ap length is.names ∙ sym names in
    let settled_now : is_pending (outcome_at n.table.outcomes t) ≡ false = ap is_pending is.dies in
    let has = s.work t (omega (arith, names, within)) k.can.pending in
    let some : 1 ≤ under remaining_tasks c t = omega (arith, count-under remaining_tasks c t has.0 has.1, has.2.unfinished) in
    record {
      items = item.Killed t ∷ [];
      state = n;
      log = k.log;
      only = tt;
      run = (n, (k.can, refl), refl);
      stands = k.stands;
      less = over_all-falls remaining_tasks c new n t 1 k.stands k.work long within settled_now some;
      ran = stays-ran c new m n k.stands k.work long is.submissions refl;
      kept = stays-there c new m n k.stands k.work long is.submissions refl;
      other = settled-other new n t id k.stands named settled_now;
    }

settles-ended : (c new : CoreView) (m : Machine) (d : WindowTask) (t : ℕ) → StandsFor c m → d.task.ticket < length c.table.names → Settles c m d t new → Ended c m d.task new
settles-ended c new m d t s here e =
    let n = with_table m (settled m.table t outcome.Done) in
    let within : t < length c.table.names = omega (arith, e.ticket, here) in
    let long : length new.table.names ≡ length c.table.names = ap (λ (x : Table). length x.names) e.stands.table ∙ ap (λ (x : Table). length x.names) (sym s.table) in
    let settled_now : is_pending (outcome_at n.table.outcomes t) ≡ false = ap is_pending (get_or-set_same m.table.outcomes t outcome.Done outcome.Pending e.can.within) in
    let some : 1 ≤ under remaining_tasks c t = rw e.ticket (omega (arith, count-under remaining_tasks c d.task.ticket e.result.progress e.result.work, e.last)) in
    record {
      items = item.Finished t ∷ [];
      state = n;
      log = e.log;
      only = tt;
      run = (n, (e.can, refl), refl);
      stands = e.stands;
      less = over_all-falls remaining_tasks c new n t 1 e.stands e.work long within settled_now some;
      ran = stays-ran c new m n e.stands e.work long refl refl;
      kept = stays-there c new m n e.stands e.work long refl refl;
      other = settled-other new n t d.task e.stands (sym e.ticket) settled_now;
    }

none_runs : (a b : Bool) → b ≡ true → (a && not b) ≡ false
none_runs true b h = rw h refl
none_runs false b h = refl

places-ended : (c new : CoreView) (m : Machine) (d : WindowTask) → StandsFor c m → d.task.ticket < length c.table.names → Places c m d new → Ended c m d.task new
places-ended c new m d s here e =
    let t = d.task.ticket in
    let p = e.result.progress in
    let q = e.after in
    let n = e.result.number in
    let work = work-under c m t p s here e.result.work in
    let count : task_count q ≡ task_count p = rw (e.plan, e.tiles) refl in
    let unfinished : flag p.finished n ≡ false = not-true (flag p.finished n) (and_parts (flag p.started n) (not (flag p.finished n)) e.result.running).1 in
    let ends : flag q.finished n ≡ true = ap (λ fs. flag fs n) e.finished ∙ get_or-set_same p.finished n true false (omega (arith, work.finished, e.result.within)) in
    let as_before : (k : ℕ) → k ≢ n → flag q.finished k ≡ flag p.finished k = λ k x. ap (λ fs. flag fs k) e.finished ∙ get_or-set_other p.finished n k true false x in
    let one_done : remaining_tasks q + 1 ≤ remaining_tasks p = omega (
      arith,
      ap (λ k. count_by (λ i. not (flag q.finished i)) (range_with_len 0 k)) count,
      count-falls (λ k. not (flag q.finished k)) (λ k. not (flag p.finished k)) (task_count p) n e.result.within (rw ends refl) (rw unfinished refl) (λ k x. ap not (as_before k x)),
    ) in
    let tables : new.table ≡ c.table = e.stands.table ∙ sym s.table in
    let names : length new.table.names ≡ length c.table.names = ap (λ (x : Table). length x.names) tables in
    let mine : progress_at new.work t ≡ Some q = ap (λ x. progress_at x t) e.work ∙ get_or-set_same c.work t (Some q) None (has-place c.work t p e.result.work) in
    let others : (u : ℕ) → u ≢ t → progress_at new.work u ≡ progress_at c.work u = λ u x. ap (λ l. progress_at l u) e.work ∙ get_or-set_other c.work t u (Some q) None x in
    let less = total-falls (under remaining_tasks new) (under remaining_tasks c) (length c.table.names) t 1 here
    (omega (arith, count-under remaining_tasks new t q mine, count-under remaining_tasks c t p e.result.work, one_done))
    (λ u l x. let y : under remaining_tasks new u ≡ under remaining_tasks c u = ap (λ o. option_map_or remaining_tasks o 0) (others u x) in omega (arith, y)) in
    -- a task under the ticket that is running is another one
    let apart : (k : ℕ) (r : Progress) → Runs new t k r → (r ≡ q) × (k ≢ n) = λ k r x.
    let same : r ≡ q = cc (x.work, mine) in
    (same, λ z. let on : is_running q n ≡ true = rw (← same, ← z) x.runs in let off : is_running q n ≡ false = none_runs (flag q.started n) (flag q.finished n) ends in absurd cc) in
    record {
      items = [];
      state = m;
      log = e.log ∙ sym (append-nil c.log);
      only = tt;
      run = refl;
      stands = e.stands;
      less = omega (arith, ap (total (under remaining_tasks new)) names, less);
      ran = λ u k r x. elim (cases_eq u t) [
        | inl z ↦
            let Q : ℕ → Type 0 = λ v. Runs new v k r → Ran c m v k (true_task m v r k) in
            subst Q (sym z) (λ y.
            let a = apart k r y in
            let runs : is_running p k ≡ true = ap (λ fs. flag fs k && not (flag p.finished k)) (sym e.started) ∙ ap (λ b. flag q.started k && not b) (sym (as_before k a.1)) ∙ ap (λ v. is_running v k) (sym a.0) ∙ y.runs in
            let number : k < task_count p = omega (arith, count, ap task_count a.0, y.number) in
            record {
              progress = p;
              runs = record { within = here; work = e.result.work; number = number; runs = runs };
              task = ap (λ v. true_task m t v k) a.0 ∙ same-plan m t k p q e.plan e.tiles e.width e.height;
            }) x
        | inr z ↦ record {
          progress = r;
          runs = record { within = omega (arith, names, x.within); work = sym (others u z) ∙ x.work; number = x.number; runs = x.runs };
          task = refl;
        }
      ];
      kept = λ u r l x. elim (cases_eq u t) [
        | inl z ↦
            let Q : ℕ → Type 0 = λ v. progress_at new.work v ≡ Some r → WasThere c m v (true_task m v r) in
            subst Q (sym z) (λ y.
            let same : r ≡ q = cc (y, mine) in
            record { progress = p; within = here; work = e.result.work; same = λ k. ap (λ v. true_task m t v k) same ∙ same-plan m t k p q e.plan e.tiles e.width e.height }) x
        | inr z ↦ record { progress = r; within = omega (arith, names, l); work = sym (others u z) ∙ x; same = λ k. refl }
      ];
      other = λ u k r x z.
          let here_too : u ≡ t = ap (λ (i : TaskId). i.ticket) z in
          let Q : ℕ → Type 0 = λ v. Runs new v k r in
          let a = apart k r (subst Q here_too x) in
          let tiles : r.tiles ≡ p.tiles = ap (λ (v : Progress). v.tiles) a.0 ∙ e.tiles in
          let step : k / length p.tiles ≡ n / length p.tiles = ap (λ l. k / length l) (sym tiles) ∙ ap (λ (i : TaskId). i.step) z ∙ ap (λ (w : WindowTask). w.task.step) e.result.task in
          let tile : k % length p.tiles ≡ n % length p.tiles = ap (λ l. k % length l) (sym tiles) ∙ ap (λ (i : TaskId). i.tile) z ∙ ap (λ (w : WindowTask). w.task.tile) e.result.task in
          a.1 (same-number k n (length p.tiles) step tile);
    }

-- ---- true tasks

-- jobs are true tasks, where each that was one is one
all-true : (c new : CoreView) (m n : Machine) → ((w : WindowTask) → IsTrueTask c m w → IsTrueTask new n w) → (jobs : List WaveTask) → AllByRecursion (IsTrueJob c m) jobs → AllByRecursion (IsTrueJob new n) jobs
all-true c new m n on [] h = tt
all-true c new m n on (job.Waits w ∷ jobs) h = (on w h.0, all-true c new m n on jobs h.1)
all-true c new m n on (job.Ran (Ok d) ∷ jobs) h = (on d h.0, all-true c new m n on jobs h.1)
all-true c new m n on (job.Ran (Err r) ∷ jobs) h = (tt, all-true c new m n on jobs h.1)
all-true c new m n on (job.Nothing ∷ jobs) h = (tt, all-true c new m n on jobs h.1)

-- a true task is one still where another has ended
true-ended : (c new : CoreView) (m : Machine) (id : TaskId) → (e : Ended c m id new) → (w : WindowTask) → IsTrueTask c m w → IsTrueTask new e.state w
true-ended c new m id e w true_before t k p within there bears =
    let was = e.kept t p within there in
    true_before t k was.progress was.within was.work (sym (ap (λ (x : WindowTask). x.task) (was.same k)) ∙ bears) ∙ sym (was.same k)

-- a true task is the core's own
true-own : (c : CoreView) (m : Machine) (d : WindowTask) → IsTrueTask c m d → IsOwn c m d
true-own c m d is within u =
    let bears : (true_task m d.task.ticket u.progress u.number).task ≡ d.task = λ i. record { ticket = d.task.ticket; step = sym u.step i; tile = sym u.tile i } in
    record { progress = u.progress; number = u.number; work = u.work; within = u.within; running = u.running; task = is d.task.ticket u.number u.progress within u.work bears }

-- ---- the wave goes on

less-gone : (old c new : CoreView) (n a : ℕ) → a ≤ 1 → GoneOn old c n → tasks_left new + 1 ≤ tasks_left c → GoneOn old new a
less-gone old c new n a small (inl g) l = inl (omega (arith, small, g, l))
less-gone old c new n a small (inr g) l = inl (omega (arith, small, g.0, l))

-- an answer is handed back, and its task has ended
hand-on : (m : Machine) (old c new : CoreView) (j : WaveTask) (jobs : List WaveTask) (n : ℕ) (id : TaskId) → n ≤ 1 → (h : Underway m old c (j ∷ jobs) n) → Ended c h.state id new
    → ((w : WindowTask) → IsOf j w → w.task ≡ id) → new.side ≡ c.side → Underway m old new jobs n
hand-on m old c new j jobs n id small h e bears side = record {
  items = h.items ++ e.items;
  state = e.state;
  side = side ∙ h.side;
  log = e.log ∙ ap (λ l. l ++ e.items) h.log ∙ append_assoc old.log h.items e.items;
  only = only_append h.items e.items h.only e.only;
  run = run_join h.items e.items m h.state e.state h.run e.run;
  stands = e.stands;
  running = λ t k p r.
      let was = e.ran t k p r in
      let had = h.running t k was.progress was.runs in
      let P : WindowTask → Type 0 = λ w. IsOf j w ⊎ HasTask jobs w in
      let has = subst P (sym was.task) had in
      elim has [
        | inl is ↦ absurd (e.other t k p r (bears (true_task e.state t p k) is))
        | inr more ↦ more
      ];
  tasks = all-true c new h.state e.state (true-ended c new h.state id e) jobs h.tasks.1;
  gone = less-gone old c new n n small h.gone e.less;
}

-- a ticket dies, and no answer is handed back
die-on : (m : Machine) (old c new : CoreView) (jobs : List WaveTask) (n : ℕ) (id : TaskId) → (h : Underway m old c jobs n) → Ended c h.state id new → new.side ≡ c.side → Underway m old new jobs 1
die-on m old c new jobs n id h e side = record {
  items = h.items ++ e.items;
  state = e.state;
  side = side ∙ h.side;
  log = e.log ∙ ap (λ l. l ++ e.items) h.log ∙ append_assoc old.log h.items e.items;
  only = only_append h.items e.items h.only e.only;
  run = run_join h.items e.items m h.state e.state h.run e.run;
  stands = e.stands;
  running = λ t k p r.
      let was = e.ran t k p r in
      let P : WindowTask → Type 0 = λ w. HasTask jobs w in
      subst P (sym was.task) (h.running t k was.progress was.runs);
  tasks = all-true c new h.state e.state (true-ended c new h.state id e) jobs h.tasks;
  gone = less-gone old c new n 1 (omega arith) h.gone e.less;
}

-- an answer is handed back that none waits for
hand-none : (m : Machine) (old c : CoreView) (j : WaveTask) (jobs : List WaveTask) (n : ℕ) → (h : Underway m old c (j ∷ jobs) n)
    → ((t k : ℕ) (p : Progress) → Runs c t k p → IsOf j (true_task h.state t p k) → ⊥) → Underway m old c jobs n
hand-none m old c j jobs n h none = record {
  items = h.items;
  state = h.state;
  side = h.side;
  log = h.log;
  only = h.only;
  run = h.run;
  stands = h.stands;
  running = λ t k p r. elim (h.running t k p r) [
    | inl is ↦ absurd (none t k p r is)
    | inr more ↦ more
  ];
  tasks = h.tasks.1;
  gone = h.gone;
}

late-none : (c : CoreView) (m : Machine) (id : TaskId) → StandsFor c m → IsSettled c id.ticket → (t k : ℕ) (p : Progress) → Runs c t k p → (true_task m t p k).task ≡ id → ⊥
late-none c m id s late t k p r e =
    let same : t ≡ id.ticket = ap (λ (x : TaskId). x.ticket) e in
    let pends = runs-pending c m t k p s r in
    let not_so : is_pending (outcome_at c.table.outcomes t) ≡ false = ap (λ x. is_pending (outcome_at c.table.outcomes x)) same ∙ late.settled in
    absurd cc

running-result : (c : CoreView) (m : Machine) (d : WindowTask) (t k : ℕ) (p : Progress) → Runs c t k p → d ≡ true_task m t p k → IsResult c m d
running-result c m d t k p r e =
    let P : WindowTask → Type 0 = λ w. IsResult c m w in
    subst P (sym e) (record { progress = p; number = k; work = r.work; within = r.number; running = r.runs; task = refl })

running-underway : (c : CoreView) (m : Machine) (id : TaskId) (t k : ℕ) (p : Progress) → Runs c t k p → id ≡ (true_task m t p k).task → IsUnderway c id
running-underway c m id t k p r e =
    let P : TaskId → Type 0 = λ x. IsUnderway c x in
    subst P (sym e) (record { progress = p; number = k; work = r.work; within = r.number; running = r.runs; step = refl; tile = refl })

same-gone : (old c new : CoreView) (n : ℕ) → GoneOn old c n → tasks_left new ≤ tasks_left c → running_count c ≤ running_count new → GoneOn old new n
same-gone old c new n (inl g) l r = inl (omega (arith, g, l))
same-gone old c new n (inr g) l r = inr (omega (arith, g.0, l), omega (arith, g.1, r))

-- what is placed behind the tickets changes nothing that is counted
places-past : (m : Machine) (old c new : CoreView) (d : WindowTask) (jobs : List WaveTask) (n : ℕ) → (h : Underway m old c (job.Ran (Ok d) ∷ jobs) n) → length c.table.names ≤ d.task.ticket
    → Places c h.state d new → new.side ≡ c.side → Underway m old new jobs n
places-past m old c new d jobs n h past e side =
    let t = d.task.ticket in
    let tables : new.table ≡ c.table = e.stands.table ∙ sym h.stands.table in
    let names : length new.table.names ≡ length c.table.names = ap (λ (x : Table). length x.names) tables in
    let others : (u : ℕ) → u ≢ t → progress_at new.work u ≡ progress_at c.work u = λ u x. ap (λ l. progress_at l u) e.work ∙ get_or-set_other c.work t u (Some e.after) None x in
    let apart : (u : ℕ) → u < length c.table.names → u ≢ t = λ u l z. omega (arith, l, past, z) in
    let same : (f : Progress → ℕ) (u : ℕ) → u < length c.table.names → under f new u ≡ under f c u = λ f u l. ap (λ o. option_map_or f o 0) (others u (apart u l)) in
    let less = total-le (under remaining_tasks new) (under remaining_tasks c) (length c.table.names) (λ u l. omega (arith, same remaining_tasks u l)) in
    let more = total-le (under running_tasks c) (under running_tasks new) (length c.table.names) (λ u l. omega (arith, same running_tasks u l)) in
    record {
      items = h.items;
      state = h.state;
      log = e.log ∙ h.log;
      side = side ∙ h.side;
      only = h.only;
      run = h.run;
      stands = e.stands;
      running = λ u k p r.
          let within : u < length c.table.names = omega (arith, names, r.within) in
          elim (h.running u k p (record { within = within; work = sym (others u (apart u within)) ∙ r.work; number = r.number; runs = r.runs })) [
            | inl is ↦ absurd (apart u within (sym (ap (λ (w : WindowTask). w.task.ticket) is)))
            | inr rest ↦ rest
          ];
      tasks = all-true c new h.state h.state
          (λ w is u k p l there bears.
          let within : u < length c.table.names = omega (arith, names, l) in
          is u k p within (sym (others u (apart u within)) ∙ there) bears) jobs h.tasks.1;
      gone = same-gone old c new n h.gone (omega (arith, ap (total (under remaining_tasks new)) names, less)) (omega (arith, ap (total (under running_tasks new)) names, more));
    }

-- a result that is handed back is the core's own
pub handed-own : (m : Machine) (old c : CoreView) (d : WindowTask) (jobs : List WaveTask) (n : ℕ) → (h : Underway m old c (job.Ran (Ok d) ∷ jobs) n) → IsOwn c h.state d
handed-own m old c d jobs n h = true-own c h.state d h.tasks.0

-- a result is handed back
pub finish-hand : (m : Machine) (old c new : CoreView) (d : WindowTask) (jobs : List WaveTask) (n : ℕ) (f : Finish) → n ≤ 1 → (h : Underway m old c (job.Ran (Ok d) ∷ jobs) n) → AnswersFinish c h.state d f new → new.side ≡ c.side → Underway m old new jobs n
finish-hand m old c new d jobs n finish.Placed small h e side = elim (cases_lt d.task.ticket (length c.table.names)) [
  | inl here ↦ hand-on m old c new (job.Ran (Ok d)) jobs n d.task small h (places-ended c new h.state d h.stands here e) (λ w is. ap (λ (v : WindowTask). v.task) (sym is)) side
  | inr past ↦ places-past m old c new d jobs n h past e side
]
finish-hand m old c new d jobs n (finish.Settled t) small h e side =
    let sound = reached c.log h.state h.stands.run in
    let here : d.task.ticket < length c.table.names = omega (arith, e.ticket, e.can.within, sound.lengths.outcomes, ap (λ (w : Table). length w.names) h.stands.table) in
    hand-on m old c new (job.Ran (Ok d)) jobs n d.task small h (settles-ended c new h.state d t h.stands here e) (λ w is. ap (λ (v : WindowTask). v.task) (sym is)) side
finish-hand m old c new d jobs n finish.Late small h e side =
    let P : CoreView → Type 0 = λ x. Underway m old x jobs n in
    subst P (sym e.1) (hand-none m old c (job.Ran (Ok d)) jobs n h (λ t k p r is. late-none c h.state d.task h.stands e.0 t k p r (ap (λ (v : WindowTask). v.task) (sym is))))
finish-hand m old c new d jobs n finish.Stranger small h e side =
    let P : CoreView → Type 0 = λ x. Underway m old x jobs n in
    subst P (sym e.2) (hand-none m old c (job.Ran (Ok d)) jobs n h (λ t k p r is. e.1 (running-result c h.state d t k p r is)))

-- a refusal is handed back
pub refuse-hand : (m : Machine) (old c new : CoreView) (r : TaskRefused) (jobs : List WaveTask) (n : ℕ) (a : Refusal) → n ≤ 1 → (h : Underway m old c (job.Ran (Err r) ∷ jobs) n) → AnswersRefusal c h.state r.task a new → new.side ≡ c.side → Underway m old new jobs n
refuse-hand m old c new r jobs n (refusal.Killed t) small h e side =
    hand-on m old c new (job.Ran (Err r)) jobs n r.task small h (kills-ended c new h.state t r.task h.stands (sym e.0) e.2) (λ w is. sym is) side
refuse-hand m old c new r jobs n refusal.Late small h e side =
    let P : CoreView → Type 0 = λ x. Underway m old x jobs n in
    subst P (sym e.1) (hand-none m old c (job.Ran (Err r)) jobs n h (λ t k p x is. late-none c h.state r.task h.stands e.0 t k p x (sym is)))
refuse-hand m old c new r jobs n refusal.Stranger small h e side =
    let P : CoreView → Type 0 = λ x. Underway m old x jobs n in
    subst P (sym e.2) (hand-none m old c (job.Ran (Err r)) jobs n h (λ t k p x is. e.1 (running-underway c h.state r.task t k p x is)))

-- ---- a task is taken

take-work : (m : Machine) (old c new : CoreView) (jobs : List WaveTask) (n : ℕ) (w : WindowTask) → (h : Underway m old c jobs n) → BeginsTask c h.state w new → Underway m old new (job.Waits w ∷ jobs) 1
take-work m old c new jobs n w h b =
    let t = w.task.ticket in
    let p = b.progress in
    let i = b.number in
    let q : Progress = record p { started = set p.started i true } in
    let work = work-under c h.state t p h.stands b.within b.work in
    let tests = (and_parts (may_run c.table t) _ b.ready).1 in
    let here : (nat_lt i (task_count p) && is_ready p i) ≡ true = ap (λ o. option_map_or (λ r. nat_lt i (task_count r) && is_ready r i) o false) (sym b.work) ∙ tests in
    let first : nat_lt i (task_count p) ≡ true = (and_parts _ _ here).0 in
    let number : i < task_count p = grind (arith, first) in
    let ready : is_ready p i ≡ true = (and_parts (nat_lt i (task_count p)) (is_ready p i) here).1 in
    let waits : flag p.started i ≡ false = not-true (flag p.started i) (and_parts (not (flag p.started i)) _ ready).0 in
    let unfinished : flag p.finished i ≡ false = elim (cases_Bool (flag p.finished i)) [
      | inl f ↦ let g = work.begun i f in absurd cc
      | inr f ↦ f
    ] in
    let places : new.work ≡ set c.work t (Some q) = ap (λ (x : CoreView). x.work) b.started in
    let tables : new.table ≡ c.table = ap (λ (x : CoreView). x.table) b.started in
    let names : length new.table.names ≡ length c.table.names = ap (λ (x : Table). length x.names) tables in
    let mine : progress_at new.work t ≡ Some q = ap (λ x. progress_at x t) places ∙ get_or-set_same c.work t (Some q) None (has-place c.work t p b.work) in
    let other : (u : ℕ) → u ≢ t → progress_at new.work u ≡ progress_at c.work u = λ u e. ap (λ x. progress_at x u) places ∙ get_or-set_other c.work t u (Some q) None e in
    let starts : flag q.started i ≡ true = get_or-set_same p.started i true false (omega (arith, work.started, number)) in
    let as_before : (k : ℕ) → k ≢ i → flag q.started k ≡ flag p.started k = λ k e. get_or-set_other p.started i k true false e in
    let left : under remaining_tasks new t ≡ under remaining_tasks c t = count-under remaining_tasks new t q mine ∙ sym (count-under remaining_tasks c t p b.work) in
    let all_left = total-le (under remaining_tasks new) (under remaining_tasks c) (length c.table.names) (λ u l. elim (cases_eq u t) [
      | inl z ↦ omega (arith, ap (under remaining_tasks new) z, ap (under remaining_tasks c) z, left)
      | inr z ↦ let y : under remaining_tasks new u ≡ under remaining_tasks c u = ap (λ o. option_map_or remaining_tasks o 0) (other u z) in omega (arith, y)
    ]) in
    let fewer : tasks_left new ≤ tasks_left old = elim h.gone [
      | inl g ↦ omega (arith, g, ap (total (under remaining_tasks new)) names, all_left)
      | inr g ↦ omega (arith, g.0, ap (total (under remaining_tasks new)) names, all_left)
    ] in
    let now : Runs new t i q = record { within = omega (arith, names, b.within); work = mine; number = number; runs = rw (starts, unfinished) refl } in
    record {
      items = h.items;
      state = h.state;
      log = ap (λ (x : CoreView). x.log) b.started ∙ h.log;
      side = ap (λ (x : CoreView). x.side) b.started ∙ h.side;
      only = h.only;
      run = h.run;
      stands = b.stands;
      running = λ u k r x. elim (cases_eq u t) [
        | inl z ↦
            let Q : ℕ → Type 0 = λ v. Runs new v k r → HasTask (job.Waits w ∷ jobs) (true_task h.state v r k) in
            subst Q (sym z) (λ y.
            let same : r ≡ q = cc (y.work, mine) in
            let task : true_task h.state t p k ≡ true_task h.state t r k = ap (λ v. true_task h.state t v k) (sym same) in
            elim (cases_eq k i) [
              | inl e ↦ inl (b.task ∙ ap (true_task h.state t p) (sym e) ∙ task)
              | inr e ↦
                  let runs : is_running p k ≡ true = ap (λ a. a && not (flag p.finished k)) (sym (as_before k e)) ∙ ap (λ v. is_running v k) (sym same) ∙ y.runs in
                  let P : WindowTask → Type 0 = λ v. HasTask jobs v in
                  inr (subst P task (h.running t k p (record { within = b.within; work = b.work; number = omega (arith, ap task_count same, y.number); runs = runs })))
            ]) x
        | inr z ↦ inr (h.running u k r (record { within = omega (arith, names, x.within); work = sym (other u z) ∙ x.work; number = x.number; runs = x.runs }))
      ];
      tasks = (
        (λ u k r l there bears.
            let here_too : u ≡ t = ap (λ (x : TaskId). x.ticket) bears in
            let Q : ℕ → Type 0 = λ v. progress_at new.work v ≡ Some r → (true_task h.state v r k).task ≡ w.task → w ≡ true_task h.state v r k in
            subst Q (sym here_too) (λ y z.
            let same : r ≡ q = cc (y, mine) in
            let task : true_task h.state t r k ≡ true_task h.state t p k = ap (λ v. true_task h.state t v k) same in
            let both : (true_task h.state t p k).task ≡ (true_task h.state t p i).task = sym (ap (λ (x : WindowTask). x.task) task) ∙ z ∙ ap (λ (x : WindowTask). x.task) b.task in
            let number : k ≡ i = same-number k i (length p.tiles) (ap (λ (x : TaskId). x.step) both) (ap (λ (x : TaskId). x.tile) both) in
            b.task ∙ ap (true_task h.state t p) (sym number) ∙ sym task) there bears),
        all-true c new h.state h.state
            (λ v is u k r l there bears. elim (cases_eq u t) [
              | inl z ↦
                  let Q : ℕ → Type 0 = λ x. progress_at new.work x ≡ Some r → (true_task h.state x r k).task ≡ v.task → v ≡ true_task h.state x r k in
                  subst Q (sym z) (λ y bears_it.
                  let same : r ≡ q = cc (y, mine) in
                  let task : true_task h.state t r k ≡ true_task h.state t p k = ap (λ x. true_task h.state t x k) same in
                  is t k p b.within b.work (sym (ap (λ (x : WindowTask). x.task) task) ∙ bears_it) ∙ sym task) there bears
              | inr z ↦ is u k r (omega (arith, names, l)) (sym (other u z) ∙ there) bears
            ]) jobs h.tasks,
      );
      gone = inr (fewer, runs-counted new t i q now);
    }

-- what the core answers to a worker that asks for a task
pub take : (m : Machine) (old c new : CoreView) (jobs : List WaveTask) (n : ℕ) (s : Started) → (h : Underway m old c jobs n) → Starts c h.state s new → new.side ≡ c.side → Took m old c jobs s new
take m old c new jobs n (started.Work w) h e side = take-work m old c new jobs n w h e
take m old c new jobs n (started.Refused t) h e side = die-on m old c new jobs n (record { ticket = t; step = 0; tile = 0 }) h (kills-ended c new h.state t (record { ticket = t; step = 0; tile = 0 }) h.stands refl e.1) side
take m old c new jobs n started.Idle h e side = e

-- ---- the whole wave

pub wave-begins : (m : Machine) (c : CoreView) → StandsFor c m → running_count c ≡ 0 → Underway m c c [] 0
wave-begins m c s none = record {
  items = [];
  state = m;
  side = refl;
  log = sym (append-nil c.log);
  only = tt;
  run = refl;
  stands = s;
  running = λ t k p r. absurd (omega (arith, none, runs-counted c t k p r));
  tasks = tt;
  gone = inl (omega arith);
}

wave-last : (m : Machine) (old c : CoreView) (j : WaveTask) (jobs : List WaveTask) (n : ℕ) → Underway m old c (j ∷ jobs) n → Underway m old c (jobs ++ j ∷ []) n
wave-last m old c j jobs n h = record {
  items = h.items;
  state = h.state;
  side = h.side;
  log = h.log;
  only = h.only;
  run = h.run;
  stands = h.stands;
  running = λ t k p r. has-last jobs j (true_task h.state t p k) (h.running t k p r);
  tasks = all-last (IsTrueJob c h.state) jobs j h.tasks.0 h.tasks.1;
  gone = h.gone;
}

-- a task that was taken stands last, behind those of the wave that is run meanwhile
pub wave-pushed : (m : Machine) (old c : CoreView) (j : WaveTask) (others jobs : List WaveTask) (n : ℕ) → Underway m old c (j ∷ (others ++ jobs)) n → Underway m old c (others ++ (jobs ++ j ∷ [])) n
wave-pushed m old c j others jobs n h =
    let P : List WaveTask → Type 0 = λ l. Underway m old c l n in
    subst P (append_assoc others jobs (j ∷ [])) (wave-last m old c j (others ++ jobs) n h)

-- an answer to a true task is one
true-answer : (c : CoreView) (m : Machine) (w : WindowTask) (a : Result WindowTask TaskRefused) → IsAnswerTo w a → IsTrueTask c m w → IsTrueAnswer c m a
true-answer c m w (Ok d) answered is =
    let P : WindowTask → Type 0 = λ x. IsTrueTask c m x in
    subst P (sym answered) is
true-answer c m w (Err r) answered is = tt

true-answered : (c : CoreView) (m : Machine) (i j : WaveTask) → IsAnswered i j → IsTrueJob c m i → IsTrueJob c m j
true-answered c m (job.Waits w) (job.Ran x) a h = true-answer c m w x a h
true-answered c m (job.Waits w) (job.Waits v) a h = absurd a
true-answered c m (job.Waits w) job.Nothing a h = absurd a
true-answered c m (job.Ran x) j a h = let P : WaveTask → Type 0 = λ i. IsTrueJob c m i in subst P (sym a) h
true-answered c m job.Nothing j a h = let P : WaveTask → Type 0 = λ i. IsTrueJob c m i in subst P (sym a) h

true-kept : (c : CoreView) (m : Machine) (i j : WaveTask) → IsKept i j → IsTrueJob c m i → IsTrueJob c m j
true-kept c m i j k h = elim k [
  | inl a ↦ true-answered c m i j a h
  | inr e ↦ let P : WaveTask → Type 0 = λ x. IsTrueJob c m x in subst P (sym e) h
]

all-true-kept : (c : CoreView) (m : Machine) (jobs after : List WaveTask) → AllZip IsKept jobs after → AllByRecursion (IsTrueJob c m) jobs → AllByRecursion (IsTrueJob c m) after
all-true-kept c m [] [] a h = tt
all-true-kept c m [] (j ∷ after) a h = absurd a
all-true-kept c m (i ∷ jobs) [] a h = absurd a
all-true-kept c m (i ∷ jobs) (j ∷ after) a h = (true-kept c m i j a.0 h.0, all-true-kept c m jobs after a.1 h.1)

pub wave-run : (m : Machine) (old c : CoreView) (jobs : List WaveTask) (n : ℕ) (w : WindowTask) (a : Result WindowTask TaskRefused) → IsAnswerTo w a → Underway m old c (job.Waits w ∷ jobs) n → Underway m old c (job.Ran a ∷ jobs) n
wave-run m old c jobs n w a answered h = record {
  items = h.items;
  state = h.state;
  side = h.side;
  log = h.log;
  only = h.only;
  run = h.run;
  stands = h.stands;
  running = λ t k p r. elim (h.running t k p r) [
    | inl is ↦ inl (still-answers (true_task h.state t p k) w a is answered)
    | inr more ↦ inr more
  ];
  tasks = (true-answer c h.state w a answered h.tasks.0, h.tasks.1);
  gone = h.gone;
}

wave-kept : (m : Machine) (old c : CoreView) (jobs after : List WaveTask) (n : ℕ) → AllZip IsKept jobs after → Underway m old c jobs n → Underway m old c after n
wave-kept m old c jobs after n a h = record {
  items = h.items;
  state = h.state;
  side = h.side;
  log = h.log;
  only = h.only;
  run = h.run;
  stands = h.stands;
  running = λ t k p r. has-kept jobs after (true_task h.state t p k) a (h.running t k p r);
  tasks = all-true-kept c h.state jobs after a h.tasks;
  gone = h.gone;
}

-- the tasks of one of two waves are answered
pub wave-answered : (m : Machine) (old c : CoreView) (jobs after others : List WaveTask) (n : ℕ) → AllZip IsAnswered jobs after → Underway m old c (jobs ++ others) n → Underway m old c (after ++ others) n
wave-answered m old c jobs after others n a h = wave-kept m old c (jobs ++ others) (after ++ others) n (kept-beside jobs after others a) h

pub wave-ends : (m : Machine) (old new : CoreView) → Underway m old new [] 1 → Worked m old new 1
wave-ends m old new h =
    let idle = none-counted new (λ t k p r. h.running t k p r) in
    record {
      items = h.items;
      state = h.state;
      log = h.log;
      side = h.side;
      only = h.only;
      run = h.run;
      stands = h.stands;
      idle = idle;
      fewer = elim h.gone [
        | inl g ↦ g
        | inr g ↦ absurd (omega (arith, g.1, idle))
      ];
    }
