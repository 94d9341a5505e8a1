-- A core that stands for some state of the machine does so after each event.
use Rattle.std.proofs.Common.{◌≡◌, ◌≢◌, ◌↔◌, ℕ, Option, Some, None, Result, Ok, Err, IfOk, OnErr, refl, sym, ◌∙◌, subst}
use Rattle.std.specs.Prelude.{IsSome}
use mathlib.Core.HLevel.{⊥_prop}
use Rattle.std.proofs.Math.Logic.{∥∥₁_map, ∥∥₁_elim}
use Rattle.mw_model.specs.declared.names.Name.{Name}
use Rattle.mw_model.specs.declared.codes.Code.TheVariants as code
use Rattle.mw_model.specs.declared.shapes.Shape.{Shape}
use Rattle.mw_model.specs.declared.calls.Outcome.{Outcome}
use Rattle.mw_model.specs.declared.calls.Outcome.TheVariants as outcome
use Rattle.mw_model.specs.declared.calls.Call.{Call}
use Rattle.mw_model.specs.declared.calls.Call.TheVariants as call
use Rattle.mw_model.specs.declared.calls.Reply.{Reply}
use Rattle.mw_model.specs.declared.calls.Reply.TheVariants as reply
use Rattle.mw_model.specs.declared.tasks.TaskId.{TaskId}
use Rattle.mw_model.specs.Values.{Value}
use Rattle.mw_model.specs.Refusals.{ticket_of, outcome_at, refusal}
use Rattle.mw_model.specs.Machine.{Machine, after, answer, reply_to, status_reply}
use Rattle.mw_model.specs.Stands.{CoreView, StandsFor}
use Rattle.mw_pool_passes.specs.mw_step_task.WindowTasks.{WindowTask}
use Rattle.mw_pool_passes.specs.mw_core.declared.answers.Started.{Started}
use Rattle.mw_pool_passes.specs.mw_core.declared.answers.Started.TheVariants as started
use Rattle.mw_pool_passes.specs.mw_core.declared.answers.Finish.{Finish}
use Rattle.mw_pool_passes.specs.mw_core.declared.answers.Finish.TheVariants as finish
use Rattle.mw_pool_passes.specs.mw_core.declared.answers.Refusal.{Refusal}
use Rattle.mw_pool_passes.specs.mw_core.declared.answers.Refusal.TheVariants as refusal
use Rattle.mw_pool_passes.specs.mw_core_laws.Events.{FollowsMachine}
use Rattle.mw_pool_passes.proofs.mw_core_laws.ShownLemmas.{IsPlain, answer-not_shown, refused_or-not_shown}
use Rattle.mw_pool_passes.specs.mw_core.TaskAnswers.{Starts, AnswersFinish, AnswersRefusal}
use Rattle.mw_pool_passes.specs.mw_store.Fetches.{ShowsSome}
use Rattle.mw_pool.specs.Tickets.{IsAwaited}

-- it stands for some state
abbrev pub Stands : CoreView → Type 0
Stands c = ∥ ((m : Machine) × StandsFor c m) ∥₁

-- ---- events

pub stands-served : {A E : Type 0} → (told : A → Reply) (r : Result A E) (old new : CoreView) (c : Call) (p : Option Value) → Stands old → IfOk r (λ a. FollowsMachine old c p new (told a)) → OnErr r (new ≡ old) → Stands new
stands-served told (Ok a) old new c p s served stays = ∥∥₁_map s (λ w. (after w.0 c p, served.stands w.0 w.1))
stands-served told (Err e) old new c p s served stays = subst Stands (sym stays) s

started-state : (old new : CoreView) (m : Machine) (a : Started) → StandsFor old m → Starts old m a new → (n : Machine) × StandsFor new n
started-state old new m (started.Work w) s h = (m, h.stands)
started-state old new m (started.Refused t) s h = (_, h.1.stands)
started-state old new m started.Idle s h = let P : CoreView → Type 0 = λ c. StandsFor c m in (m, subst P (sym h.1) s)

pub stands-started : (old new : CoreView) (a : Started) → Stands old → ((m : Machine) → StandsFor old m → Starts old m a new) → Stands new
stands-started old new a s h = ∥∥₁_map s (λ w. started-state old new w.0 a w.1 (h w.0 w.1))

finished-state : (old new : CoreView) (m : Machine) (d : WindowTask) (a : Finish) → StandsFor old m → AnswersFinish old m d a new → (n : Machine) × StandsFor new n
finished-state old new m d finish.Placed s h = (m, h.stands)
finished-state old new m d (finish.Settled t) s h = (_, h.stands)
finished-state old new m d finish.Late s h = let P : CoreView → Type 0 = λ c. StandsFor c m in (m, subst P (sym h.1) s)
finished-state old new m d finish.Stranger s h = let P : CoreView → Type 0 = λ c. StandsFor c m in (m, subst P (sym h.2) s)

pub stands-finished : (old new : CoreView) (d : WindowTask) (a : Finish) → Stands old → ((m : Machine) → StandsFor old m → AnswersFinish old m d a new) → Stands new
stands-finished old new d a s h = ∥∥₁_map s (λ w. finished-state old new w.0 d a w.1 (h w.0 w.1))

refused-state : (old new : CoreView) (m : Machine) (k : TaskId) (a : Refusal) → StandsFor old m → AnswersRefusal old m k a new → (n : Machine) × StandsFor new n
refused-state old new m k (refusal.Killed t) s h = (_, h.2.stands)
refused-state old new m k refusal.Late s h = let P : CoreView → Type 0 = λ c. StandsFor c m in (m, subst P (sym h.1) s)
refused-state old new m k refusal.Stranger s h = let P : CoreView → Type 0 = λ c. StandsFor c m in (m, subst P (sym h.2) s)

pub stands-refused : (old new : CoreView) (k : TaskId) (a : Refusal) → Stands old → ((m : Machine) → StandsFor old m → AnswersRefusal old m k a new) → Stands new
stands-refused old new k a s h = ∥∥₁_map s (λ w. refused-state old new w.0 k a w.1 (h w.0 w.1))

-- ---- what is handed out

-- what some state tells, where it cannot be
pub no-state : (c : CoreView) → Stands c → ((m : Machine) → StandsFor c m → ⊥) → ⊥
no-state c s h = ∥∥₁_elim s ⊥_prop (λ w. h w.0 w.1)

other-reply : (c : CoreView) (v : Value) (r : Reply) → Stands c → (ShowsSome r → ⊥) → ((m : Machine) → StandsFor c m → IsSome (Some v) ↔ ShowsSome r) → IsSome (Some v) ↔ ShowsSome r
other-reply c v r s none h = absurd (no-state c s (λ m st. none ((h m st).0 refl)))

-- a value is handed out exactly where the reply is `Shown`, since it is so for some state
pub shows-some : (c : CoreView) (o : Option Value) (r : Reply) → Stands c → ((m : Machine) → StandsFor c m → IsSome o ↔ ShowsSome r) → IsSome o ↔ ShowsSome r
shows-some c None r s h = (λ e. absurd cc, λ w. absurd (no-state c s (λ m st. let e = (h m st).1 w in cc)))
shows-some c (Some v) (reply.Shown t) s h = (λ e. (t, refl), λ w. refl)
shows-some c (Some v) (reply.Accepted t) s h = other-reply c v (reply.Accepted t) s (λ w. let e = w.1 in cc) h
shows-some c (Some v) (reply.Refused d) s h = other-reply c v (reply.Refused d) s (λ w. let e = w.1 in cc) h
shows-some c (Some v) (reply.Pending t) s h = other-reply c v (reply.Pending t) s (λ w. let e = w.1 in cc) h
shows-some c (Some v) (reply.Done t x) s h = other-reply c v (reply.Done t x) s (λ w. let e = w.1 in cc) h
shows-some c (Some v) (reply.Cancelled t) s h = other-reply c v (reply.Cancelled t) s (λ w. let e = w.1 in cc) h
shows-some c (Some v) (reply.OutOfMemory t) s h = other-reply c v (reply.OutOfMemory t) s (λ w. let e = w.1 in cc) h
shows-some c (Some v) (reply.BadInput t i) s h = other-reply c v (reply.BadInput t i) s (λ w. let e = w.1 in cc) h
shows-some c (Some v) (reply.Released t) s h = other-reply c v (reply.Released t) s (λ w. let e = w.1 in cc) h

pub shows-some-if : {E : Type 0} → {A : Type 0} (value : A → Option Value) (told : A → Reply) (r : Result A E) (c : CoreView) → Stands c
    → ((m : Machine) → StandsFor c m → IfOk r (λ a. IsSome (value a) ↔ ShowsSome (told a))) → IfOk r (λ a. IsSome (value a) ↔ ShowsSome (told a))
shows-some-if value told (Ok a) c s h = shows-some c (value a) (told a) s h
shows-some-if value told (Err e) c s h = tt

-- no call but FETCH is answered by `Shown`
pub plain-shows-nothing : {E : Type 0} → (r : Result Reply E) (old new : CoreView) (c : Call) (p : Option Value) → IsPlain c → Stands old → IfOk r (FollowsMachine old c p new) → IfOk r (λ a. ShowsSome a → ⊥)
plain-shows-nothing (Ok a) old new c p plain s served = λ w.
    no-state old s (λ m st. refused_or-not_shown (refusal m.table m.payloads c) (answer m.table c) w.0 (answer-not_shown m.table c w.0 plain) (sym (served.reply m st) ∙ w.1))
plain-shows-nothing (Err e) old new c p plain s served = tt

-- ---- the end of a wait

status-pending : (t u : ℕ) (x : Shape) (o : Outcome) → status_reply t x o ≡ reply.Pending u → o ≡ outcome.Pending
status-pending t u x outcome.Pending e = refl
status-pending t u x outcome.Done e = absurd cc
status-pending t u x outcome.Cancelled e = absurd cc
status-pending t u x outcome.Memory e = absurd cc
status-pending t u x (outcome.Input i) e = absurd cc
status-pending t u x outcome.Released e = absurd cc

-- where STATUS tells that an entry is pending, the name has an entry that is
tells-awaited : (m : Machine) (n : Name) (u : ℕ) (o : Option ℕ) → ticket_of m.table.names n ≡ o → reply_to m (call.Status n) ≡ reply.Pending u → IsAwaited m.table n
tells-awaited m n u None e h = let none : reply.Refused code.Unknown ≡ reply.Pending u = rw e at h in absurd cc
tells-awaited m n u (Some t) e h = (t, e, status-pending t u _ (outcome_at m.table.outcomes t) (rw e at h))

pub no-pending : {E : Type 0} → (r : Result Reply E) (old new : CoreView) (n : Name) → Stands old → ((m : Machine) → StandsFor old m → IsAwaited m.table n → ⊥)
    → IfOk r (FollowsMachine old (call.Status n) None new) → IfOk r (λ a. (u : ℕ) → a ≢ reply.Pending u)
no-pending (Ok a) old new n s free served = λ u e. no-state old s (λ m st. free m st (tells-awaited m n u (ticket_of m.table.names n) refl (sym (served.reply m st) ∙ e)))
no-pending (Err x) old new n s free served = tt
