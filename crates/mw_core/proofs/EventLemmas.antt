-- What happens at an event, from the clauses of the core's call.
use Rattle.std.proofs.Common.{◌≡◌, ℕ, List, [], ◌∷◌, ◌++◌, None, IsSome, ◌↔◌, Result, Ok, Err, IfOk, OnErr, refl, sym, subst}
use Rattle.mw_model.specs.declared.calls.Call.{Call}
use Rattle.mw_model.specs.declared.calls.Reply.{Reply}
use Rattle.mw_model.specs.declared.calls.Reply.TheVariants as reply
use Rattle.mw_model.specs.Machine.{Machine, after}
use Rattle.mw_model.specs.Stands.{CoreView, StandsFor}
use Rattle.mw_core_refusals.specs.mw_store.declared.fetched.Fetched.{Fetched}
use Rattle.mw_core.specs.declared.events.Event.{Event}
use Rattle.mw_core.specs.declared.events.Answer.{Answer}
use Rattle.mw_core_ledger.specs.mw_core_laws.Events.{FollowsMachine, IsFresh, handed_out}
use Rattle.mw_core_refusals.specs.mw_store.Fetches.{ShowsSome, shown_value}
use Rattle.mw_core.specs.EventEffects.{ReplyEffect, Submits, Fetches, HasEffect, HaveEffects, answer_of, fetch_answer_of}

replies : (m : Machine) (c : Call) (r : Reply) (old new : CoreView) → StandsFor old m → FollowsMachine old c None new r → ReplyEffect old m c None r new (after m c None)
replies m c r old new s served = record { reply = served.reply m s; machine = refl; log = served.log; work = served.work }

stands_for-same : (m : Machine) (old new : CoreView) → StandsFor old m → new ≡ old → StandsFor new m
stands_for-same m old new s e = let P : CoreView → Type 0 = λ x. StandsFor x m in subst P (sym e) s

pub run-happens : {E : Type 0} → (m : Machine) (c : Call) (r : Result Reply E) (old new : CoreView) → StandsFor old m → IfOk r (FollowsMachine old c None new) → ((t : ℕ) → IfOk r (λ x. x ≡ reply.Accepted t → IsFresh new t)) → OnErr r (new ≡ old)
    → (n : Machine) × Submits old m c (answer_of r) new n × StandsFor new n
run-happens m c (Ok x) old new s served fresh err = (after m c None, (replies m c x old new s served, fresh), served.stands m s)
run-happens m c (Err e) old new s served fresh err = (m, (err, refl), stands_for-same m old new s err)

pub fetch-happens : {E : Type 0} → (m : Machine) (c : Call) (r : Result Fetched E) (old new : CoreView) → StandsFor old m → IfOk r (λ f. FollowsMachine old c None new f.reply)
    → IfOk r (λ f. shown_value f.value ≡ handed_out m f.reply) → IfOk r (λ f. IsSome (shown_value f.value) ↔ ShowsSome f.reply) → OnErr r (new ≡ old) → (n : Machine) × Fetches old m c (fetch_answer_of r) new n × StandsFor new n
fetch-happens m c (Ok f) old new s served value shown err = (after m c None, (replies m c f.reply old new s served, value, shown), served.stands m s)
fetch-happens m c (Err e) old new s served value shown err = (m, (err, refl), stands_for-same m old new s err)

-- one event more
pub happens-push : (old between new : CoreView) (m k n : Machine) (es : List Event) (answers : List Answer) (e : Event) (a : Answer) → HaveEffects old m es answers between k → HasEffect between k e a new n → StandsFor new n → new.side ≡ between.side
    → HaveEffects old m (es ++ e ∷ []) (answers ++ a ∷ []) new n
happens-push old between new m k n [] [] e a h step s side =
    let P : CoreView → Type 0 = λ x. HasEffect x k e a new n × (new.side ≡ x.side) in
    let Q : Machine → Type 0 = λ x. HasEffect old x e a new n in
    let first = subst P h.0 (step, side) in
    (new, n, subst Q h.1 first.0, s, first.1, (refl, refl))
happens-push old between new m k n [] (b ∷ answers) e a h step s side = absurd h
happens-push old between new m k n (d ∷ es) [] e a h step s side = absurd h
happens-push old between new m k n (d ∷ es) (b ∷ answers) e a h step s side = (h.0, h.1, h.2, h.3, h.4, happens-push h.0 between new h.1 k n es answers e a h.5 step s side)
