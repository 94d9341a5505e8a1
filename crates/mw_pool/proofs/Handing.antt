-- Tasks that were handed out are the core's own through each event.
use Rattle.std.proofs.Common.{◌≡◌, ℕ, ◌<◌, ◌≤◌, true, not, inl, inr, List, [], ◌∷◌, ◌++◌, length, map, set, Option, Some, None, Result, Ok, Err, IfOk, OnErr, refl, sym, ap, ◌∙◌, subst, arith, append-nil, length-append, get_or-set_same, get_or-set_other}
use Rattle.std.specs.List.{AllByRecursion}
use Rattle.std.specs.Coded.{Coded-set, codes}
use Rattle.std.proofs.Math.Logic.{∥∥₁_map, ∥∥₁_elim}
use Rattle.std.proofs.lemmas.Bool.{cases_eq, and_parts}
use Rattle.mw_model.proofs.mw_facts.Alls.{all-weaker, all-append_right, all-push}
use Rattle.mw_model.specs.declared.names.Name.{Name}
use Rattle.mw_model.specs.declared.codes.Code.{Code}
use Rattle.mw_model.specs.declared.submissions.Submission.{Submission}
use Rattle.mw_model.specs.declared.calls.Outcome.{Outcome}
use Rattle.mw_model.specs.declared.calls.Outcome.TheVariants as outcome
use Rattle.mw_model.specs.declared.calls.Call.{Call}
use Rattle.mw_model.specs.declared.calls.Call.TheVariants as call
use Rattle.mw_model.specs.declared.calls.Reply.{Reply}
use Rattle.mw_model.specs.declared.tasks.TaskId.{TaskId}
use Rattle.mw_model.specs.Values.{Value, tickets, value_at, values_after}
use Rattle.mw_model.specs.Refusals.{Table, is_pending, outcome_at, refusal, submission_at}
use Rattle.mw_model.specs.Machine.{Machine, after, changed, given_submission, killed, payload_of, run_submission, settled, unless_refused, with_table}
use Rattle.mw_model.specs.Tasks.{Progress, flag, is_running}
use Rattle.mw_model.specs.Stands.{CoreView, StandsFor, input_values, inputs_there, progress_at}
use Rattle.mw_pool_passes.specs.mw_model_laws.MachineLaws.{IsSound}
use Rattle.mw_pool_passes.proofs.mw_model_laws.RunGrowth.{grows_added}
use Rattle.mw_pool_passes.proofs.mw_model_laws.RunSteps.{pushed}
use Rattle.mw_pool_passes.specs.mw_step_task.WindowTasks.{WindowTask}
use Rattle.mw_pool_passes.specs.mw_core.declared.answers.Started.{Started}
use Rattle.mw_pool_passes.specs.mw_core.declared.answers.Started.TheVariants as started
use Rattle.mw_pool_passes.specs.mw_core.declared.answers.Finish.{Finish}
use Rattle.mw_pool_passes.specs.mw_core.declared.answers.Finish.TheVariants as finish
use Rattle.mw_pool_passes.specs.mw_core.declared.answers.Refusal.{Refusal}
use Rattle.mw_pool_passes.specs.mw_core.declared.answers.Refusal.TheVariants as refusal
use Rattle.mw_pool_passes.specs.mw_core.TaskAnswers.{Starts, AnswersFinish, IsOwn, AnswersRefusal}
use Rattle.mw_pool_passes.specs.mw_core_laws.Events.{FollowsMachine, WorkStays}
use Rattle.mw_pool_passes.specs.mw_core_laws.TaskEvents.{BeginsTask, Kills, Places}
use Rattle.mw_pool_passes.specs.mw_core_laws.Works.{true_task}
use Rattle.mw_pool_passes.proofs.mw_core_laws.StandsLemmas.{stands-sound}
use Rattle.mw_pool_passes.proofs.mw_core_laws.TaskLemmas.{has-place, kept-images, same-number, same-plan, work-of}
use Rattle.mw_pool_passes.proofs.mw_core_laws.Later.{goes-on}
use Rattle.mw_pool.specs.Handed.{AreHanded, IsHanded}
use Rattle.mw_pool.specs.Rolls.{StandsIn, Writes}

-- ---- what a call leaves of the inputs of earlier tickets

record Grown (m n : Machine) : Type 0 where
  names : length m.table.names ≤ length n.table.names
  inputs : (t : ℕ) → t < length m.table.names → input_values n t ≡ input_values m t

same-grown : (m n : Machine) → n.table.names ≡ m.table.names → n.table.submissions ≡ m.table.submissions → n.payloads ≡ m.payloads → Grown m n
same-grown m n a b c = record {
  names = omega (arith, ap length a);
  inputs = λ t l.
      ap (λ es. map (value_at (values_after [] es n.payloads)) (tickets (submission_at es t).inputs)) b
      ∙ ap (λ ps. map (value_at (values_after [] m.table.submissions ps)) (tickets (submission_at m.table.submissions t).inputs)) c;
}

pushed-grown : (m : Machine) (n : Name) (e : Submission) (o : Outcome) (p : Option Value) → IsSound m → Grown m (pushed m n e o p)
pushed-grown m n e o p s = record {
  names = omega (arith, length-append m.table.names (n ∷ []));
  inputs = λ t l. (goes-on m (pushed m n e o p) t s (grows_added m n e o p s) l).inputs;
}

killed-grown : (m : Machine) (t : ℕ) (cause : Outcome) → Grown m (with_table m (killed m.table t cause))
unfolding killed
killed-grown m t cause = same-grown m _ refl refl refl

-- the machine after a call that is refused so, or is not
abbrev called : Machine → Call → Option Value → Option Code → Machine
called m c p x = record { table = unless_refused x m.table (changed m.table c); payloads = unless_refused x m.payloads (m.payloads ++ payload_of c p) }

called-grown : (m : Machine) (c : Call) (p : Option Value) (x : Option Code) → IsSound m → Grown m (called m c p x)
unfolding killed
called-grown m c p (Some x) s = same-grown m _ refl refl refl
called-grown m (call.Load n g) p None s = pushed-grown m n (given_submission g) outcome.Done p s
called-grown m (call.Element n g) p None s = pushed-grown m n (given_submission g) outcome.Done p s
called-grown m (call.Run n o) p None s = pushed-grown m n (run_submission m.table o) outcome.Pending None s
called-grown m (call.Cancel n) p None s = same-grown m _ refl refl (append-nil m.payloads)
called-grown m (call.Release n) p None s = same-grown m _ refl refl (append-nil m.payloads)
called-grown m (call.Status n) p None s = same-grown m _ refl refl (append-nil m.payloads)
called-grown m (call.Fetch n) p None s = same-grown m _ refl refl (append-nil m.payloads)

-- ---- one task

-- a task reads nothing of a machine but the values of its ticket's inputs
same-inputs : (m n : Machine) (t k : ℕ) (p : Progress) → input_values n t ≡ input_values m t → true_task n t p k ≡ true_task m t p k
same-inputs m n t k p e = rw e refl

-- where other work stays or goes
stays : (c new : CoreView) (m n : Machine) → StandsFor c m → StandsFor new n → WorkStays c new → Grown m n → (d : WindowTask) → IsHanded c m d → IsHanded new n d
stays c new m n s z work g d h =
    let t = d.task.ticket in
    let named : t < length m.table.names = omega (arith, ap (λ (w : Table). length w.names) s.table, h.0) in (
      omega (arith, named, g.names, ap (λ (w : Table). length w.names) z.table),
      λ p k there bears.
          let pends : is_pending (outcome_at new.table.outcomes t) ≡ true = ap (λ (w : Table). is_pending (outcome_at w.outcomes t)) z.table ∙ ap is_pending (z.idle t p there) in
          h.1 p k (sym (work t h.0 pends) ∙ there) bears ∙ sym (same-inputs m n t k p (g.inputs t named)),
    )

-- where the work under one ticket goes on, and its tasks stay the same
goes : (c new : CoreView) (m : Machine) (t : ℕ) (p q : Progress) → length new.table.names ≡ length c.table.names → progress_at c.work t ≡ Some p → new.work ≡ set c.work t (Some q)
    → ((u k : ℕ) → true_task m u q k ≡ true_task m u p k) → (d : WindowTask) → IsHanded c m d → IsHanded new m d
goes c new m t p q names was now same d h =
    let u = d.task.ticket in (
      omega (arith, names, h.0),
      λ r k there bears. elim (cases_eq u t) [
        | inl z ↦
            let mine : progress_at new.work u ≡ Some q = ap (progress_at new.work) z ∙ ap (λ x. progress_at x t) now ∙ get_or-set_same c.work t (Some q) None (has-place c.work t p was) in
            let one : r ≡ q = cc (there, mine) in
            let task : true_task m u r k ≡ true_task m u p k = ap (λ v. true_task m u v k) one ∙ same u k in
            h.1 p k (ap (progress_at c.work) z ∙ was) (sym (ap (λ (w : WindowTask). w.task) task) ∙ bears) ∙ sym task
        | inr z ↦ h.1 r k (sym (ap (λ x. progress_at x u) now ∙ get_or-set_other c.work t u (Some q) None z) ∙ there) bears
      ],
    )

-- the task that is handed out
begun : (c new : CoreView) (m : Machine) (w : WindowTask) → BeginsTask c m w new → IsHanded new m w
begun c new m w b =
    let t = w.task.ticket in
    let p = b.progress in
    let i = b.number in
    let q : Progress = record p { started = set p.started i true } in
    let mine : progress_at new.work t ≡ Some q = ap (λ (x : CoreView). progress_at x.work t) b.started ∙ get_or-set_same c.work t (Some q) None (has-place c.work t p b.work) in (
      omega (arith, ap (λ (x : CoreView). length x.table.names) b.started, b.within),
      λ r k there bears.
          let one : r ≡ q = cc (there, mine) in
          let task : true_task m t r k ≡ true_task m t p k = ap (λ v. true_task m t v k) one in
          let both : (true_task m t p k).task ≡ (true_task m t p i).task = sym (ap (λ (x : WindowTask). x.task) task) ∙ bears ∙ ap (λ (x : WindowTask). x.task) b.task in
          let number : k ≡ i = same-number k i (length p.tiles) (ap (λ (x : TaskId). x.step) both) (ap (λ (x : TaskId). x.tile) both) in
          b.task ∙ ap (true_task m t p) (sym number) ∙ sym task,
    )

begins : (c new : CoreView) (m : Machine) (w : WindowTask) → BeginsTask c m w new → (d : WindowTask) → IsHanded c m d → IsHanded new m d
begins c new m w b =
    goes c new m w.task.ticket b.progress (record b.progress { started = set b.progress.started b.number true }) (ap (λ (x : CoreView). length x.table.names) b.started) b.work
    (ap (λ (x : CoreView). x.work) b.started) (λ u k. refl)

places : (c new : CoreView) (m : Machine) (e : WindowTask) → StandsFor c m → Places c m e new → (d : WindowTask) → IsHanded c m d → IsHanded new m d
places c new m e s x =
    goes c new m e.task.ticket x.result.progress x.after (ap (λ (w : Table). length w.names) (x.stands.table ∙ sym s.table)) x.result.work x.work
    (λ u k. same-plan m u k x.result.progress x.after x.plan x.tiles x.width x.height)

-- ---- all that stand in the roll

-- the core stands for a state, beside which each of them is the core's own
abbrev Standing : CoreView → List WindowTask → Type 0
Standing c roll = (m : Machine) × StandsFor c m × AllByRecursion (IsHanded c m) roll

on : (c new : CoreView) (m n : Machine) (roll : List WindowTask) → ((d : WindowTask) → IsHanded c m d → IsHanded new n d) → AllByRecursion (IsHanded c m) roll → AllByRecursion (IsHanded new n) roll
on c new m n roll each all = all-weaker (IsHanded c m) (IsHanded new n) roll each all

unchanged : (old new : CoreView) (roll : List WindowTask) → new ≡ old → Standing old roll → Standing new roll
unchanged old new roll same w = let P : CoreView → Type 0 = λ c. Standing c roll in subst P (sym same) w

kills : (old new : CoreView) (t : ℕ) (roll : List WindowTask) → (w : Standing old roll) → Kills old w.0 t new → Standing new roll
kills old new t roll w k =
    let n = with_table w.0 (killed w.0.table t outcome.Memory) in
    (n, k.stands, on old new w.0 n roll (stays old new w.0 n w.1 k.stands k.work (killed-grown w.0 t outcome.Memory)) w.2)

pub handed-served : {A E : Type 0} → (told : A → Reply) (r : Result A E) (old new : CoreView) (c : Call) (p : Option Value) (roll : List WindowTask) → AreHanded old roll → IfOk r (λ a. FollowsMachine old c p new (told a)) → OnErr r (new ≡ old)
    → AreHanded new roll
handed-served told (Ok a) old new c p roll h served same = ∥∥₁_map h (λ w.
    let n = after w.0 c p in
    let grown : Grown w.0 n = called-grown w.0 c p (refusal w.0.table w.0.payloads c) (stands-sound old w.0 w.1) in
    (n, served.stands w.0 w.1, on old new w.0 n roll (stays old new w.0 n w.1 (served.stands w.0 w.1) served.work grown) w.2))
handed-served told (Err e) old new c p roll h served same = ∥∥₁_map h (unchanged old new roll same)

started-on : (old new : CoreView) (a : Started) (roll : List WindowTask) → (w : Standing old roll) → Starts old w.0 a new → Standing new roll
started-on old new (started.Work v) roll w b = (w.0, b.stands, on old new w.0 w.0 roll (begins old new w.0 v b) w.2)
started-on old new (started.Refused t) roll w k = kills old new t roll w k.1
started-on old new started.Idle roll w e = unchanged old new roll e.1 w

started-written : (old new : CoreView) (a : Started) (slip : Option (List WindowTask)) (roll written : List WindowTask) → Writes roll a slip written → (w : Standing old roll) → Starts old w.0 a new → Standing new written
started-written old new (started.Work v) (Some seen) roll written is w b =
    let P : List WindowTask → Type 0 = λ l. Standing new l in
    let before : AllByRecursion (IsHanded new w.0) roll = on old new w.0 w.0 roll (begins old new w.0 v b) w.2 in
    subst P (sym is.0) (w.0, b.stands, all-push (IsHanded new w.0) roll v before (begun old new w.0 v b))
started-written old new (started.Work v) None roll written is w b = let P : List WindowTask → Type 0 = λ l. Standing new l in subst P (sym is) (started-on old new (started.Work v) roll w b)
started-written old new (started.Refused t) (Some seen) roll written is w b = absurd is
started-written old new (started.Refused t) None roll written is w b = let P : List WindowTask → Type 0 = λ l. Standing new l in subst P (sym is) (started-on old new (started.Refused t) roll w b)
started-written old new started.Idle (Some seen) roll written is w b = absurd is
started-written old new started.Idle None roll written is w b = let P : List WindowTask → Type 0 = λ l. Standing new l in subst P (sym is) (started-on old new started.Idle roll w b)

pub handed-started : (old new : CoreView) (a : Started) (slip : Option (List WindowTask)) (roll written : List WindowTask) → Writes roll a slip written → AreHanded old roll
    → ((m : Machine) → StandsFor old m → Starts old m a new) → AreHanded new written
handed-started old new a slip roll written is h starts = ∥∥₁_map h (λ w. started-written old new a slip roll written is w (starts w.0 w.1))

finished-on : (old new : CoreView) (d : WindowTask) (a : Finish) (roll : List WindowTask) → (w : Standing old roll) → AnswersFinish old w.0 d a new → Standing new roll
finished-on old new d finish.Placed roll w e = (w.0, e.stands, on old new w.0 w.0 roll (places old new w.0 d w.1 e) w.2)
finished-on old new d (finish.Settled t) roll w e =
    let n = with_table w.0 (settled w.0.table t outcome.Done) in
    (n, e.stands, on old new w.0 n roll (stays old new w.0 n w.1 e.stands e.work (same-grown w.0 n refl refl refl)) w.2)
finished-on old new d finish.Late roll w e = unchanged old new roll e.1 w
finished-on old new d finish.Stranger roll w e = unchanged old new roll e.2 w

pub handed-finished : (old new : CoreView) (d : WindowTask) (a : Finish) (roll : List WindowTask) → AreHanded old roll → ((m : Machine) → StandsFor old m → AnswersFinish old m d a new) → AreHanded new roll
handed-finished old new d a roll h finishes = ∥∥₁_map h (λ w. finished-on old new d a roll w (finishes w.0 w.1))

refused-on : (old new : CoreView) (k : TaskId) (a : Refusal) (roll : List WindowTask) → (w : Standing old roll) → AnswersRefusal old w.0 k a new → Standing new roll
refused-on old new k (refusal.Killed t) roll w e = kills old new t roll w e.2
refused-on old new k refusal.Late roll w e = unchanged old new roll e.1 w
refused-on old new k refusal.Stranger roll w e = unchanged old new roll e.2 w

pub handed-refused : (old new : CoreView) (k : TaskId) (a : Refusal) (roll : List WindowTask) → AreHanded old roll → ((m : Machine) → StandsFor old m → AnswersRefusal old m k a new) → AreHanded new roll
handed-refused old new k a roll h refuses = ∥∥₁_map h (λ w. refused-on old new k a roll w (refuses w.0 w.1))

-- ---- a task of the roll is the core's own, for each state that the core stands for

-- the inputs of a running task are kept, so that all states have the same
running-inputs : (c : CoreView) (m : Machine) (t k : ℕ) (p : Progress) → StandsFor c m → t < length c.table.names → progress_at c.work t ≡ Some p → is_running p k ≡ true
    → (outcome_at c.table.outcomes t ≡ outcome.Pending) × (inputs_there m.table t ≡ true)
running-inputs c m t k p s within work runs =
    let pending : outcome_at c.table.outcomes t ≡ outcome.Pending = ap (λ (w : Table). outcome_at w.outcomes t) s.table ∙ s.idle t p work in
    (pending, (work-of c m t p s within pending work).there k (and_parts (flag p.started k) (not (flag p.finished k)) runs).0)

running-same : (c : CoreView) (m n : Machine) (t k : ℕ) (p : Progress) → StandsFor c m → StandsFor c n → t < length c.table.names → progress_at c.work t ≡ Some p → is_running p k ≡ true
    → true_task m t p k ≡ true_task n t p k
running-same c m n t k p s z within work runs =
    let one = running-inputs c m t k p s within work runs in
    let other = running-inputs c n t k p z within work runs in
    same-inputs n m t k p (sym (kept-images c m t s within one.0 one.1) ∙ kept-images c n t z within other.0 other.1)

task-set : IsSet WindowTask
task-set = Coded-set (hlevel codes)

in-roll : (P : WindowTask → Type 0) (roll : List WindowTask) (d : WindowTask) → StandsIn roll d → AllByRecursion P roll → P d
in-roll P roll d at all =
    let All : List WindowTask → Type 0 = λ l. AllByRecursion P l in
    (all-append_right P at.0 (d ∷ at.1) (subst All at.2 all)).0

pub roll-own : (c : CoreView) (roll : List WindowTask) (d : WindowTask) → AreHanded c roll → StandsIn roll d → (n : Machine) → StandsFor c n → IsOwn c n d
roll-own c roll d h at n z within u =
    let t = d.task.ticket in
    let p = u.progress in
    let k = u.number in
    let bears : (n : Machine) → (true_task n t p k).task ≡ d.task = λ n i. record { ticket = t; step = sym u.step i; tile = sym u.tile i } in
    record {
      progress = p;
      number = k;
      work = u.work;
      within = u.within;
      running = u.running;
      task = ∥∥₁_elim h (task-set d (true_task n t p k)) (λ w.
          (in-roll (IsHanded c w.0) roll d at w.2).1 p k u.work (bears w.0) ∙ running-same c w.0 n t k p w.1 z within u.work u.running);
    }

-- an empty roll
pub handed-none : (c : CoreView) (roll : List WindowTask) → roll ≡ [] → (m : Machine) × StandsFor c m → AreHanded c roll
handed-none c roll none w =
    let P : List WindowTask → Type 0 = λ l. Standing c l in
    ∣ subst P (sym none) (w.0, w.1, tt) ∣₁
