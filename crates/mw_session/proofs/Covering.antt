-- A budget goes on covering what the core is counted as.
use Rattle.std.proofs.Common.{◌≡◌, ℕ, ◌+◌, ◌*◌, ◌≤◌, Bool, true, false, inl, inr, [], ◌∷◌, length, if◌then◌else◌, Option, Some, None, Result, Ok, Err, refl, sym, ap, ◌∙◌, subst, arith, length-append}
use Rattle.std.specs.Prelude.{IfOk, IfSome, OnErr, is_some, nat_le}
use Rattle.std.specs.Result.{ForOk}
use Rattle.mw_model.proofs.mw_facts.Finds.{option_cases}
use Rattle.mw_model.specs.declared.names.Name.{Name}
use Rattle.mw_model.specs.declared.operations.Op.{Op}
use Rattle.mw_model.specs.declared.calls.Given.{Given}
use Rattle.mw_model.specs.declared.calls.Given.TheVariants as given
use Rattle.mw_model.specs.declared.calls.LogItem.TheVariants as item
use Rattle.mw_model.specs.declared.memory.NoMemory.{NoMemory}
use Rattle.mw_model.specs.declared.calls.Call.{Call}
use Rattle.mw_model.specs.declared.calls.Call.TheVariants as call
use Rattle.mw_model.specs.declared.calls.Reply.{Reply}
use Rattle.mw_model.specs.declared.calls.Reply.TheVariants as reply
use Rattle.mw_model.specs.declared.codes.Code.{Code}
use Rattle.mw_model.specs.Pictures.{Picture, IsImage}
use Rattle.mw_model.specs.Elements.{Figure}
use Rattle.mw_model.specs.Values.{Value}
use Rattle.mw_model.specs.Refusals.{refusal}
use Rattle.mw_model.specs.Machine.{Machine, IsWith, reply_to}
use Rattle.mw_model.specs.Stands.{CoreView, StandsFor, running_count}
use Rattle.mw_core_waves.specs.mw_core.Costs.{core_bytes, run_bytes, told_bytes}
use Rattle.mw_core_waves.specs.mw_core_laws.Events.{FollowsMachine}
use Rattle.mw_core_waves.specs.mw_core_laws.Payloads.{given_image, image_payload, given_element, element_payload}
use Rattle.mw_core_waves.specs.Work.{AllWorked}
use Rattle.mw_session_fetch.specs.mw_store.declared.fetched.Fetched.{Fetched}
use Rattle.mw_core_waves.proofs.mw_core_laws.StandsLemmas.{stands-refusal}
use Rattle.mw_core_waves.proofs.mw_model_laws.RunReplay.{refusal_tells}
use Rattle.mw_core_bytes.specs.Growth.{payload_bytes, call_bytes}
use Rattle.mw_core_bytes.proofs.Steps.{bad-refused, call-counts, element-counts, work-counts}
use Rattle.mw_session.specs.declared.budget.Budget.{Budget}
use Rattle.mw_session.specs.Budgets.{has_left, asked_for, kept_part, may_take, payload_cost, with_taken, with_beside, with_item, with_answer, CoversCore, Within, HasLeft, KeepsCount, OnlyAsks}

-- ---- numbers, as far as they are told

same-le : (a : ℕ) → a ≤ a
same-le a = omega arith

taken-more : (c d s t x : ℕ) → d ≤ c + x → told_bytes (c + s) ≤ t → told_bytes (d + s) ≤ told_bytes (t + x)
taken-more c d s t x less covers = omega (arith, less, covers)

beside-more : (c s t n : ℕ) → told_bytes (c + s) ≤ t → told_bytes (c + told_bytes (s + n)) ≤ told_bytes (t + n)
beside-more c s t n covers = omega (arith, covers)

answer-more : (c d s t n w x : ℕ) → n ≡ told_bytes x → d ≤ c + (x + 128) → told_bytes (c + s) ≤ t → told_bytes (d + told_bytes (s + w)) ≤ told_bytes (told_bytes (told_bytes (t + 128) + n) + w)
answer-more c d s t n w x is less covers = omega (arith, is, less, covers)

item-within : (t k l e : ℕ) → e ≡ l + 1 → t ≤ k + l * 128 → told_bytes (t + 128) ≤ k + e * 128
item-within t k l e long within = omega (arith, long, within)

answer-within : (t n w k e : ℕ) → t + told_bytes (told_bytes (n + w) + 128) ≤ k → told_bytes (told_bytes (told_bytes (t + 128) + n) + w) ≤ k + e * 128
answer-within t n w k e left = omega (arith, left)

run-within : (t n k e : ℕ) → t + told_bytes (n + 384) ≤ k → told_bytes (told_bytes (told_bytes (told_bytes (t + 256) + 128) + n) + 0) ≤ k + e * 128
run-within t n k e left = omega (arith, left)

refused-within : (t n k e : ℕ) → t + told_bytes (n + 384) ≤ k → told_bytes (told_bytes (t + 256) + 128) ≤ k + e * 128
refused-within t n k e left = omega (arith, left)

unrun-within : (t n k e : ℕ) → t + told_bytes (n + 384) ≤ k → told_bytes (t + 256) ≤ k + e * 128
unrun-within t n k e left = omega (arith, left)

lower-left : (t u n k : ℕ) → u ≤ t → t + n ≤ k → u + n ≤ k
lower-left t u n k less left = omega (arith, less, left)

lower-within : (t u k : ℕ) → u ≤ t → t ≤ k → u ≤ k
lower-within t u k less within = omega (arith, less, within)

-- ---- one change after another

pub keeps-same : (c : CoreView) (b : Budget) → KeepsCount c b c b
keeps-same c b = record { bound = refl; covers = λ m s none h. h; within = λ m s none h k. k }

pub keeps-then : (c d : CoreView) (b e f : Budget) → KeepsCount c b c e → KeepsCount c e d f → KeepsCount c b d f
keeps-then c d b e f h k = record {
  bound = k.bound ∙ h.bound;
  covers = λ m s none was. k.covers m s none (h.covers m s none was);
  within = λ m s none was bounded. k.within m s none (h.covers m s none was) (h.within m s none was bounded);
}

-- a budget by its parts
abbrev parts : Option ℕ → ℕ → ℕ → Budget
parts o t s = record { most = o; taken = t; beside = s }

-- ---- questions

lower-same : (o : Option ℕ) (t : ℕ) → IfSome o (λ most. t ≤ t)
lower-same None t = tt
lower-same (Some most) t = same-le t

pub asks-same : (c : CoreView) (b : Budget) → OnlyAsks c b b
asks-same c b = record { bound = refl; covers = λ h. h; lower = λ h. lower-same b.most b.taken }

lower-then : (o p : Option ℕ) (t u w : ℕ) → p ≡ o → IfSome o (λ most. u ≤ t) → IfSome p (λ most. w ≤ u) → IfSome o (λ most. w ≤ t)
lower-then None p t u w same first second = tt
lower-then (Some most) None t u w same first second = absurd cc
lower-then (Some most) (Some more) t u w same first second = lower-within u w t second first

-- one question after another
pub asks-then : (c : CoreView) (b e f : Budget) → OnlyAsks c b e → OnlyAsks c e f → OnlyAsks c b f
asks-then c b e f h k = record {
  bound = k.bound ∙ h.bound;
  covers = λ was. k.covers (h.covers was);
  lower = λ was. lower-then b.most e.most b.taken e.taken f.taken h.bound (h.lower was) (k.lower (h.covers was));
}

within-lower : (o p : Option ℕ) (t s u v : ℕ) (c : CoreView) → p ≡ o → IfSome o (λ most. u ≤ t) → Within (parts o t s) c → Within (parts p u v) c
within-lower None None t s u v c same lower h = tt
within-lower None (Some more) t s u v c same lower h = absurd cc
within-lower (Some most) None t s u v c same lower h = tt
within-lower (Some most) (Some more) t s u v c same lower h =
    let one : more ≡ most = cc in
    let P : ℕ → Type 0 = λ x. u ≤ kept_part x + length c.log * 128 in
    subst P (sym one) (lower-within t u (kept_part most + length c.log * 128) lower h)

-- a core that stays
pub asks-keep : (c : CoreView) (b e : Budget) → OnlyAsks c b e → KeepsCount c b c e
asks-keep c b e h = record {
  bound = h.bound;
  covers = λ m s none was. h.covers was;
  within = λ m s none was bounded. within-lower b.most e.most b.taken b.beside e.taken e.beside c h.bound (h.lower was) bounded;
}

choose : (P : Budget → Type 0) (x : Bool) (b e : Budget) → P b → P e → P (if x then b else e)
choose P true b e p q = p
choose P false b e p q = q

asked-parts : (part : ℕ → ℕ) (o : Option ℕ) (t s : ℕ) (c : CoreView) (more : ℕ) → OnlyAsks c (parts o t s) (asked_for part (parts o t s) c more)
asked-parts part None t s c more = asks-same c (parts None t s)
asked-parts part (Some most) t s c more =
    let b = parts (Some most) t s in
    let e = parts (Some most) (told_bytes (core_bytes c + s)) s in
    let P : Budget → Type 0 = λ x. OnlyAsks c b x in
    choose P (has_left b (part most) more) b e (asks-same c b) (record { bound = refl; covers = λ h. same-le (told_bytes (core_bytes c + s)); lower = λ h. h })

-- a budget that was asked
pub asks-asked : (part : ℕ → ℕ) (b e : Budget) (c : CoreView) (more : ℕ) → e ≡ asked_for part b c more → OnlyAsks c b e
asks-asked part b e c more is =
    let P : Budget → Type 0 = λ x. OnlyAsks c b x in
    subst P (sym is) (asked-parts part b.most b.taken b.beside c more)

has-left : (part : ℕ → ℕ) (o : Option ℕ) (t s : ℕ) (c : CoreView) (more : ℕ) → may_take part (parts o t s) c more ≡ true → IfSome o (λ most. (asked_for part (parts o t s) c more).taken + more ≤ part most)
has-left part None t s c more may = tt
has-left part (Some most) t s c more may = fits may
  where
    fits : nat_le ((asked_for part (parts (Some most) t s) c more).taken + more) (part most) ≡ true → (asked_for part (parts (Some most) t s) c more).taken + more ≤ part most
    fits e = grind (arith, e)

left-of : (part : ℕ → ℕ) (o p : Option ℕ) (t s : ℕ) (e : Budget) (c : CoreView) (more : ℕ) → e ≡ asked_for part (parts o t s) c more → e.most ≡ o → may_take part (parts o t s) c more ≡ true → IfSome e.most (λ most. e.taken + more ≤ part most)
left-of part o p t s e c more is same may =
    let P : Option ℕ → Type 0 = λ x. IfSome x (λ most. e.taken + more ≤ part most) in
    let Q : Budget → Type 0 = λ x. IfSome o (λ most. x.taken + more ≤ part most) in
    subst P (sym same) (subst Q (sym is) (has-left part o t s c more may))

-- what may be taken is left then
pub asked-left : (b e : Budget) (c : CoreView) (more : ℕ) → e ≡ asked_for kept_part b c more → may_take kept_part b c more ≡ true → HasLeft e more
asked-left b e c more is may = left-of kept_part b.most b.most b.taken b.beside e c more is (asks-asked kept_part b e c more is).bound may

left-lower : (o p : Option ℕ) (t s u v n : ℕ) → p ≡ o → IfSome o (λ most. u ≤ t) → HasLeft (parts o t s) n → HasLeft (parts p u v) n
left-lower None None t s u v n same lower left = tt
left-lower None (Some more) t s u v n same lower left = absurd cc
left-lower (Some most) None t s u v n same lower left = tt
left-lower (Some most) (Some more) t s u v n same lower left =
    let one : more ≡ most = cc in
    let P : ℕ → Type 0 = λ x. u + n ≤ kept_part x in
    subst P (sym one) (lower-left t u n (kept_part most) lower left)

-- and still, where the budget was asked again
pub left-asked : (b e : Budget) (c : CoreView) (n : ℕ) → OnlyAsks c b e → CoversCore b c → HasLeft b n → HasLeft e n
left-asked b e c n asks h left = left-lower b.most e.most b.taken b.beside e.taken e.beside n asks.bound (asks.lower h) left

unbounded-parts : (o : Option ℕ) (t s : ℕ) (c d : CoreView) → is_some o ≡ false → KeepsCount c (parts o t s) d (parts o t s)
unbounded-parts None t s c d none = record { bound = refl; covers = λ m st idle h. tt; within = λ m st idle h k. tt }
unbounded-parts (Some most) t s c d none = absurd cc

-- without a bound nothing is counted
pub keeps-unbounded : (b : Budget) (c d : CoreView) → is_some b.most ≡ false → KeepsCount c b d b
keeps-unbounded b c d none = unbounded-parts b.most b.taken b.beside c d none

-- ---- an item of the log

covers-taken : (o : Option ℕ) (t s x : ℕ) (c d : CoreView) → core_bytes d ≤ core_bytes c + x → CoversCore (parts o t s) c → CoversCore (with_taken (parts o t s) x) d
covers-taken None t s x c d less h = tt
covers-taken (Some most) t s x c d less h = taken-more (core_bytes c) (core_bytes d) s t x less h

within-item : (o : Option ℕ) (t s : ℕ) (c d : CoreView) → length d.log ≡ length c.log + 1 → Within (parts o t s) c → Within (with_taken (parts o t s) 128) d
within-item None t s c d long h = tt
within-item (Some most) t s c d long h = item-within t (kept_part most) (length c.log) (length d.log) long h

bound-taken : (o : Option ℕ) (t s x : ℕ) → (with_taken (parts o t s) x).most ≡ o
bound-taken None t s x = refl
bound-taken (Some most) t s x = refl

keeps-item : (b : Budget) (c d : CoreView) → length d.log ≡ length c.log + 1 → ((m : Machine) → StandsFor c m → core_bytes d ≤ core_bytes c + 128) → KeepsCount c b d (with_taken b 128)
keeps-item b c d long less = record {
  bound = bound-taken b.most b.taken b.beside 128;
  covers = λ m s none h. covers-taken b.most b.taken b.beside 128 c d (less m s) h;
  within = λ m s none h k. within-item b.most b.taken b.beside c d long k;
}

keeps-err : (b : Budget) (c d : CoreView) → d ≡ c → KeepsCount c b d b
keeps-err b c d same = let P : CoreView → Type 0 = λ x. KeepsCount c b x b in subst P (sym same) (keeps-same c b)

-- an answer that takes no more than an item of the log
pub keeps-quiet : {X E : Type 0} → (got : Result X E) (b : Budget) (c d : CoreView) → OnErr got (d ≡ c) → IfOk got (λ r. length d.log ≡ length c.log + 1) → IfOk got (λ r. (m : Machine) → StandsFor c m → core_bytes d ≤ core_bytes c + 128) → KeepsCount c b d (with_item b got)
keeps-quiet (Ok r) b c d err long ok = keeps-item b c d long ok
keeps-quiet (Err e) b c d err long ok = keeps-err b c d err

-- ---- answers

bound-beside : (o : Option ℕ) (t s x : ℕ) → (with_beside (parts o t s) x).most ≡ o
bound-beside None t s x = refl
bound-beside (Some most) t s x = refl

covers-beside : (o : Option ℕ) (t s n : ℕ) (c : CoreView) → CoversCore (parts o t s) c → CoversCore (with_beside (parts o t s) n) c
covers-beside None t s n c h = tt
covers-beside (Some most) t s n c h = beside-more (core_bytes c) s t n h

covers-accepted : (o : Option ℕ) (t s n w x : ℕ) (c d : CoreView) → n ≡ told_bytes x → core_bytes d ≤ core_bytes c + (x + 128) → CoversCore (parts o t s) c → CoversCore (with_beside (with_taken (with_taken (parts o t s) 128) n) w) d
covers-accepted None t s n w x c d told less h = tt
covers-accepted (Some most) t s n w x c d told less h = answer-more (core_bytes c) (core_bytes d) s t n w x told less h

within-accepted : (o : Option ℕ) (t s n w : ℕ) (d : CoreView) → HasLeft (parts o t s) (payload_cost n w) → Within (with_beside (with_taken (with_taken (parts o t s) 128) n) w) d
within-accepted None t s n w d left = tt
within-accepted (Some most) t s n w d left = answer-within t n w (kept_part most) (length d.log) left

bound-accepted : (o : Option ℕ) (t s n w : ℕ) → (with_beside (with_taken (with_taken (parts o t s) 128) n) w).most ≡ o
bound-accepted None t s n w = refl
bound-accepted (Some most) t s n w = refl

-- a reply that accepts nothing
abbrev IsOther : Reply → Type 0
IsOther (reply.Accepted t) = ⊥
IsOther r = Unit {0}

-- what a call takes by its reply
record Takes (x : ℕ) (f : Reply → ℕ) : Type 0 where
  accepted : (t : ℕ) → f (reply.Accepted t) ≡ x + 128
  other : (r : Reply) → IsOther r → f r ≡ 128

-- An answer: where it accepts, it takes what was asked for, and else an item of the log.
record Answer {E : Type 0} (got : Result Reply E) (c d : CoreView) (n x : ℕ) (f : Reply → ℕ) : Type 0 where
  takes : Takes x f
  err : OnErr got (d ≡ c)
  long : IfOk got (λ r. length d.log ≡ length c.log + 1)
  less : IfOk got (λ r. (m : Machine) → StandsFor c m → core_bytes d ≤ core_bytes c + f r)
  told : IfOk got (λ r. (m : Machine) → StandsFor c m → (t : ℕ) → r ≡ reply.Accepted t → n ≡ told_bytes x)

-- an answer of one reply
abbrev Said : Reply → CoreView → CoreView → ℕ → ℕ → (Reply → ℕ) → Type 0
Said r c d n x f = Answer {E = NoMemory} (Ok r) c d n x f

other-less : (r : Reply) (c d : CoreView) (n x : ℕ) (f : Reply → ℕ) → Said r c d n x f → IsOther r → (m : Machine) → StandsFor c m → core_bytes d ≤ core_bytes c + 128
other-less r c d n x f a other m s = omega (arith, a.less m s, a.takes.other r other)

covers-answer : (got : Result Reply NoMemory) (b : Budget) (c d : CoreView) (n w x : ℕ) (f : Reply → ℕ) → Answer got c d n x f → (m : Machine) → StandsFor c m → CoversCore b c → CoversCore (with_answer b got n w) d
covers-answer (Ok (reply.Accepted u)) b c d n w x f a m s h = covers-accepted b.most b.taken b.beside n w x c d (a.told m s u refl) (omega (arith, a.less m s, a.takes.accepted u)) h
covers-answer (Ok (reply.Refused y)) b c d n w x f a m s h = covers-taken b.most b.taken b.beside 128 c d (other-less (reply.Refused y) c d n x f a tt m s) h
covers-answer (Ok (reply.Pending t)) b c d n w x f a m s h = covers-taken b.most b.taken b.beside 128 c d (other-less (reply.Pending t) c d n x f a tt m s) h
covers-answer (Ok (reply.Done t y)) b c d n w x f a m s h = covers-taken b.most b.taken b.beside 128 c d (other-less (reply.Done t y) c d n x f a tt m s) h
covers-answer (Ok (reply.Cancelled t)) b c d n w x f a m s h = covers-taken b.most b.taken b.beside 128 c d (other-less (reply.Cancelled t) c d n x f a tt m s) h
covers-answer (Ok (reply.OutOfMemory t)) b c d n w x f a m s h = covers-taken b.most b.taken b.beside 128 c d (other-less (reply.OutOfMemory t) c d n x f a tt m s) h
covers-answer (Ok (reply.BadInput t y)) b c d n w x f a m s h = covers-taken b.most b.taken b.beside 128 c d (other-less (reply.BadInput t y) c d n x f a tt m s) h
covers-answer (Ok (reply.Released t)) b c d n w x f a m s h = covers-taken b.most b.taken b.beside 128 c d (other-less (reply.Released t) c d n x f a tt m s) h
covers-answer (Ok (reply.Shown t)) b c d n w x f a m s h = covers-taken b.most b.taken b.beside 128 c d (other-less (reply.Shown t) c d n x f a tt m s) h
covers-answer (Err e) b c d n w x f a m s h = let P : CoreView → Type 0 = λ y. CoversCore b y in subst P (sym a.err) h

-- what it takes was left
abbrev IsLeft : Result Reply NoMemory → Budget → ℕ → Type 0
IsLeft got b n = IfOk got (λ r. (t : ℕ) → r ≡ reply.Accepted t → HasLeft b n)

within-answer : (got : Result Reply NoMemory) (b : Budget) (c d : CoreView) (n w x : ℕ) (f : Reply → ℕ) → Answer got c d n x f → IsLeft got b (payload_cost n w) → Within b c → Within (with_answer b got n w) d
within-answer (Ok (reply.Accepted u)) b c d n w x f a left h = within-accepted b.most b.taken b.beside n w d (left u refl)
within-answer (Ok (reply.Refused y)) b c d n w x f a left h = within-item b.most b.taken b.beside c d a.long h
within-answer (Ok (reply.Pending t)) b c d n w x f a left h = within-item b.most b.taken b.beside c d a.long h
within-answer (Ok (reply.Done t y)) b c d n w x f a left h = within-item b.most b.taken b.beside c d a.long h
within-answer (Ok (reply.Cancelled t)) b c d n w x f a left h = within-item b.most b.taken b.beside c d a.long h
within-answer (Ok (reply.OutOfMemory t)) b c d n w x f a left h = within-item b.most b.taken b.beside c d a.long h
within-answer (Ok (reply.BadInput t y)) b c d n w x f a left h = within-item b.most b.taken b.beside c d a.long h
within-answer (Ok (reply.Released t)) b c d n w x f a left h = within-item b.most b.taken b.beside c d a.long h
within-answer (Ok (reply.Shown t)) b c d n w x f a left h = within-item b.most b.taken b.beside c d a.long h
within-answer (Err e) b c d n w x f a left h = let P : CoreView → Type 0 = λ y. Within b y in subst P (sym a.err) h

bound-answer : (got : Result Reply NoMemory) (b : Budget) (n w : ℕ) → (with_answer b got n w).most ≡ b.most
bound-answer (Ok (reply.Accepted u)) b n w = bound-accepted b.most b.taken b.beside n w
bound-answer (Ok (reply.Refused y)) b n w = bound-taken b.most b.taken b.beside 128
bound-answer (Ok (reply.Pending t)) b n w = bound-taken b.most b.taken b.beside 128
bound-answer (Ok (reply.Done t y)) b n w = bound-taken b.most b.taken b.beside 128
bound-answer (Ok (reply.Cancelled t)) b n w = bound-taken b.most b.taken b.beside 128
bound-answer (Ok (reply.OutOfMemory t)) b n w = bound-taken b.most b.taken b.beside 128
bound-answer (Ok (reply.BadInput t y)) b n w = bound-taken b.most b.taken b.beside 128
bound-answer (Ok (reply.Released t)) b n w = bound-taken b.most b.taken b.beside 128
bound-answer (Ok (reply.Shown t)) b n w = bound-taken b.most b.taken b.beside 128
bound-answer (Err e) b n w = refl

-- ---- the kinds of requests

if-ok : {X E : Type 0} → (got : Result X E) (P Q : X → Type 0) → IfOk got P → ((x : X) → P x → Q x) → IfOk got Q
if-ok (Ok x) P Q h f = f x h
if-ok (Err e) P Q h f = tt

load-takes : (c : CoreView) (n : Name) (g : Given) (p : Option Value) → Takes (payload_bytes c g p) (call_bytes c (call.Load n g) p)
load-takes c n g p = record { accepted = λ t. refl; other = others }
  where
    others : (r : Reply) → IsOther r → call_bytes c (call.Load n g) p r ≡ 128
    others (reply.Accepted t) h = absurd h
    others (reply.Refused y) h = refl
    others (reply.Pending t) h = refl
    others (reply.Done t y) h = refl
    others (reply.Cancelled t) h = refl
    others (reply.OutOfMemory t) h = refl
    others (reply.BadInput t y) h = refl
    others (reply.Released t) h = refl
    others (reply.Shown t) h = refl

element-takes : (c : CoreView) (n : Name) (g : Given) (p : Option Value) → Takes (payload_bytes c g p) (call_bytes c (call.Element n g) p)
element-takes c n g p = record { accepted = λ t. refl; other = others }
  where
    others : (r : Reply) → IsOther r → call_bytes c (call.Element n g) p r ≡ 128
    others (reply.Accepted t) h = absurd h
    others (reply.Refused y) h = refl
    others (reply.Pending t) h = refl
    others (reply.Done t y) h = refl
    others (reply.Cancelled t) h = refl
    others (reply.OutOfMemory t) h = refl
    others (reply.BadInput t y) h = refl
    others (reply.Released t) h = refl
    others (reply.Shown t) h = refl

run-takes : (c : CoreView) (n : Name) (o : Op) (p : Option Value) → Takes (run_bytes c o) (call_bytes c (call.Run n o) p)
run-takes c n o p = record { accepted = λ t. refl; other = others }
  where
    others : (r : Reply) → IsOther r → call_bytes c (call.Run n o) p r ≡ 128
    others (reply.Accepted t) h = absurd h
    others (reply.Refused y) h = refl
    others (reply.Pending t) h = refl
    others (reply.Done t y) h = refl
    others (reply.Cancelled t) h = refl
    others (reply.OutOfMemory t) h = refl
    others (reply.BadInput t y) h = refl
    others (reply.Released t) h = refl
    others (reply.Shown t) h = refl

image-with : (n : Name) (image : Result Picture Code) → ForOk image IsImage → IsWith (call.Load n (given_image image)) (image_payload image)
image-with n (Ok f) is = (f, refl, is f refl, refl)
image-with n (Err x) is = refl

log-long : (c d : CoreView) (q : Call) (p : Option Value) (r : Reply) → FollowsMachine c q p d r → length d.log ≡ length c.log + 1
log-long c d q p r h = ap length h.log ∙ length-append c.log (item.Call q r ∷ [])

-- a payload that is none is never accepted
never-accepted : (m : Machine) (q : Call) (r : Reply) (t : ℕ) → (refusal m.table m.payloads q ≡ None → ⊥) → r ≡ reply_to m q → r ≡ reply.Accepted t → ⊥
never-accepted m q r t refused told accepted = elim (option_cases (refusal m.table m.payloads q)) [
  | inl free ↦ refused free
  | inr why ↦
      let clash : reply.Accepted t ≡ reply.Refused why.0 = sym accepted ∙ told ∙ refusal_tells m q why.0 why.1 in
      cc
]

load-left : (got : Result Reply NoMemory) (b : Budget) (c d : CoreView) (name : Name) (image : Result Picture Code) (n : ℕ) (m : Machine) → StandsFor c m → IfOk got (FollowsMachine c (call.Load name (given_image image)) (image_payload image) d) → IfOk image (λ f. HasLeft b n) → IsLeft got b n
load-left got b c d name (Ok f) n m s served left = if-ok got (FollowsMachine c (call.Load name (given_image (Ok f))) (image_payload (Ok f)) d) _ served (λ r h t accepted. left)
load-left got b c d name (Err e) n m s served left =
    if-ok got (FollowsMachine c (call.Load name (given_image (Err e))) (image_payload (Err e)) d) _ served (λ r h t accepted. absurd (never-accepted m (call.Load name (given.Bad e)) r t (bad-refused m.table name e) (h.reply m s) accepted))

element-left : (got : Result Reply NoMemory) (b : Budget) (c d : CoreView) (name : Name) (element : Result Figure Code) (n : ℕ) (m : Machine) → StandsFor c m → IfOk got (FollowsMachine c (call.Element name (given_element element)) (element_payload element) d) → IfOk element (λ f. HasLeft b n) → IsLeft got b n
element-left got b c d name (Ok f) n m s served left = if-ok got (FollowsMachine c (call.Element name (given_element (Ok f))) (element_payload (Ok f)) d) _ served (λ r h t accepted. left)
element-left got b c d name (Err e) n m s served left =
    if-ok got (FollowsMachine c (call.Element name (given_element (Err e))) (element_payload (Err e)) d) _ served (λ r h t accepted. absurd (never-accepted m (call.Element name (given.Bad e)) r t (bad-refused m.table name e) (h.reply m s) accepted))

-- what was left for an image is left for what it is counted as
image-left : (b e : Budget) (c : CoreView) (image : Result Picture Code) (n w : ℕ) → n ≡ told_bytes (payload_bytes c (given_image image) (image_payload image)) → OnlyAsks c b e → CoversCore b c
    → IfOk image (λ f. HasLeft b (payload_cost (told_bytes (payload_bytes c (given_image (Ok f)) (image_payload (Ok f)))) w)) → IfOk image (λ f. HasLeft e (payload_cost n w))
image-left b e c (Ok f) n w told asks h left = let P : ℕ → Type 0 = λ x. HasLeft b (payload_cost x w) in left-asked b e c (payload_cost n w) asks h (subst P (sym told) left)
image-left b e c (Err x) n w told asks h left = tt

figure-left : (b e : Budget) (c : CoreView) (element : Result Figure Code) (n w : ℕ) → n ≡ told_bytes (payload_bytes c (given_element element) (element_payload element)) → OnlyAsks c b e → CoversCore b c
    → IfOk element (λ f. HasLeft b (payload_cost (told_bytes (payload_bytes c (given_element (Ok f)) (element_payload (Ok f)))) w)) → IfOk element (λ f. HasLeft e (payload_cost n w))
figure-left b e c (Ok f) n w told asks h left = let P : ℕ → Type 0 = λ x. HasLeft b (payload_cost x w) in left-asked b e c (payload_cost n w) asks h (subst P (sym told) left)
figure-left b e c (Err x) n w told asks h left = tt

pub keeps-load : (got : Result Reply NoMemory) (b e : Budget) (c d : CoreView) (name : Name) (image : Result Picture Code) (n w : ℕ) → n ≡ told_bytes (payload_bytes c (given_image image) (image_payload image)) → ForOk image IsImage
    → OnErr got (d ≡ c) → IfOk got (FollowsMachine c (call.Load name (given_image image)) (image_payload image) d) → d.side ≡ c.side → OnlyAsks c b e
    → IfOk image (λ f. HasLeft b (payload_cost (told_bytes (payload_bytes c (given_image (Ok f)) (image_payload (Ok f)))) w)) → KeepsCount c b d (with_answer e got n w)
keeps-load got b e c d name image n w told is err served side asks left =
    let g = given_image image in
    let p = image_payload image in
    let a : Answer got c d n (payload_bytes c g p) (call_bytes c (call.Load name g) p)
    = record {
      takes = load-takes c name g p;
      err = err;
      long = if-ok got (FollowsMachine c (call.Load name g) p d) _ served (λ r h. log-long c d (call.Load name g) p r h);
      less = if-ok got (FollowsMachine c (call.Load name g) p d) _ served (λ r h m s. call-counts c d m (call.Load name g) p r s (image-with name image is) h side);
      told = if-ok got (FollowsMachine c (call.Load name g) p d) _ served (λ r h m s t accepted. told);
    } in
    record {
      bound = bound-answer got e n w ∙ asks.bound;
      covers = λ m s none h. covers-answer got e c d n w (payload_bytes c g p) (call_bytes c (call.Load name g) p) a m s (asks.covers h);
      within = λ m s none h k. within-answer got e c d n w (payload_bytes c g p) (call_bytes c (call.Load name g) p) a (load-left got e c d name image (payload_cost n w) m s served (image-left b e c image n w told asks h left)) ((asks-keep c b e asks).within m s none h k);
    }

pub keeps-element : (got : Result Reply NoMemory) (b e : Budget) (c d : CoreView) (name : Name) (element : Result Figure Code) (n w : ℕ) → n ≡ told_bytes (payload_bytes c (given_element element) (element_payload element))
    → OnErr got (d ≡ c) → IfOk got (FollowsMachine c (call.Element name (given_element element)) (element_payload element) d) → d.side ≡ c.side → OnlyAsks c b e
    → IfOk element (λ f. HasLeft b (payload_cost (told_bytes (payload_bytes c (given_element (Ok f)) (element_payload (Ok f)))) w)) → KeepsCount c b d (with_answer e got n w)
keeps-element got b e c d name element n w told err served side asks left =
    let g = given_element element in
    let p = element_payload element in
    let a : Answer got c d n (payload_bytes c g p) (call_bytes c (call.Element name g) p)
    = record {
      takes = element-takes c name g p;
      err = err;
      long = if-ok got (FollowsMachine c (call.Element name g) p d) _ served (λ r h. log-long c d (call.Element name g) p r h);
      less = if-ok got (FollowsMachine c (call.Element name g) p d) _ served (λ r h m s. element-counts c d m name g p r s h side);
      told = if-ok got (FollowsMachine c (call.Element name g) p d) _ served (λ r h m s t accepted. told);
    } in
    record {
      bound = bound-answer got e n w ∙ asks.bound;
      covers = λ m s none h. covers-answer got e c d n w (payload_bytes c g p) (call_bytes c (call.Element name g) p) a m s (asks.covers h);
      within = λ m s none h k. within-answer got e c d n w (payload_bytes c g p) (call_bytes c (call.Element name g) p) a (element-left got e c d name element (payload_cost n w) m s served (figure-left b e c element n w told asks h left)) ((asks-keep c b e asks).within m s none h k);
    }

-- what is asked for a RUN that is accepted
run-told : (c d : CoreView) (name : Name) (o : Op) (n : ℕ) (r : Reply) (m : Machine) (t : ℕ) → (refusal c.table c.kept (call.Run name o) ≡ None → n ≡ told_bytes (run_bytes c o)) → FollowsMachine c (call.Run name o) None d r → StandsFor c m → r ≡ reply.Accepted t → n ≡ told_bytes (run_bytes c o)
run-told c d name o n r m t told h s accepted = elim (option_cases (refusal c.table c.kept (call.Run name o))) [
  | inl free ↦ told free
  | inr why ↦
      let refused : r ≡ reply.Refused why.0 = h.reply m s ∙ refusal_tells m (call.Run name o) why.0 (sym (stands-refusal c m (call.Run name o) s) ∙ why.1) in
      let clash : reply.Accepted t ≡ reply.Refused why.0 = sym accepted ∙ refused in
      absurd cc
]

-- what is left for a RUN and its block of the log
run-parts : (got : Result Reply NoMemory) (o : Option ℕ) (t s n : ℕ) (d : CoreView) → HasLeft (parts o t s) (told_bytes (n + 384)) → Within (with_answer (with_beside (parts o t s) 256) got n 0) d
run-parts (Ok (reply.Accepted u)) None t s n d left = tt
run-parts (Ok (reply.Refused y)) None t s n d left = tt
run-parts (Ok (reply.Pending u)) None t s n d left = tt
run-parts (Ok (reply.Done u y)) None t s n d left = tt
run-parts (Ok (reply.Cancelled u)) None t s n d left = tt
run-parts (Ok (reply.OutOfMemory u)) None t s n d left = tt
run-parts (Ok (reply.BadInput u y)) None t s n d left = tt
run-parts (Ok (reply.Released u)) None t s n d left = tt
run-parts (Ok (reply.Shown u)) None t s n d left = tt
run-parts (Err e) None t s n d left = tt
run-parts (Ok (reply.Accepted u)) (Some most) t s n d left = run-within t n (kept_part most) (length d.log) left
run-parts (Ok (reply.Refused y)) (Some most) t s n d left = refused-within t n (kept_part most) (length d.log) left
run-parts (Ok (reply.Pending u)) (Some most) t s n d left = refused-within t n (kept_part most) (length d.log) left
run-parts (Ok (reply.Done u y)) (Some most) t s n d left = refused-within t n (kept_part most) (length d.log) left
run-parts (Ok (reply.Cancelled u)) (Some most) t s n d left = refused-within t n (kept_part most) (length d.log) left
run-parts (Ok (reply.OutOfMemory u)) (Some most) t s n d left = refused-within t n (kept_part most) (length d.log) left
run-parts (Ok (reply.BadInput u y)) (Some most) t s n d left = refused-within t n (kept_part most) (length d.log) left
run-parts (Ok (reply.Released u)) (Some most) t s n d left = refused-within t n (kept_part most) (length d.log) left
run-parts (Ok (reply.Shown u)) (Some most) t s n d left = refused-within t n (kept_part most) (length d.log) left
run-parts (Err e) (Some most) t s n d left = unrun-within t n (kept_part most) (length d.log) left

pub keeps-run : (got : Result Reply NoMemory) (b e : Budget) (c d : CoreView) (name : Name) (o : Op) (n more : ℕ) → (refusal c.table c.kept (call.Run name o) ≡ None → n ≡ told_bytes (run_bytes c o))
    → OnErr got (d ≡ c) → IfOk got (FollowsMachine c (call.Run name o) None d) → d.side ≡ c.side → more ≡ told_bytes (n + 384) → e ≡ asked_for kept_part b c more → may_take kept_part b c more ≡ true → KeepsCount c b d (with_answer (with_beside e 256) got n 0)
keeps-run got b e c d name o n more told err served side sum is may =
    let asks = asks-asked kept_part b e c more is in
    let f = with_beside e 256 in
    let P : ℕ → Type 0 = λ x. HasLeft e x in
    let left : HasLeft e (told_bytes (n + 384)) = subst P sum (asked-left b e c more is may) in
    let a : Answer got c d n (run_bytes c o) (call_bytes c (call.Run name o) None)
    = record {
      takes = run-takes c name o None;
      err = err;
      long = if-ok got (FollowsMachine c (call.Run name o) None d) _ served (λ r h. log-long c d (call.Run name o) None r h);
      less = if-ok got (FollowsMachine c (call.Run name o) None d) _ served (λ r h m s. call-counts c d m (call.Run name o) None r s refl h side);
      told = if-ok got (FollowsMachine c (call.Run name o) None d) _ served (λ r h m s t accepted. run-told c d name o n r m t told h s accepted);
    } in
    record {
      bound = bound-answer got f n 0 ∙ bound-beside e.most e.taken e.beside 256 ∙ asks.bound;
      covers = λ m s none h. covers-answer got f c d n 0 (run_bytes c o) (call_bytes c (call.Run name o) None) a m s (covers-beside e.most e.taken e.beside 256 c (asks.covers h));
      within = λ m s none h k. run-parts got e.most e.taken e.beside n d left;
    }

pub keeps-status : {E : Type 0} → (got : Result Reply E) (b : Budget) (c d : CoreView) (name : Name) → OnErr got (d ≡ c) → IfOk got (FollowsMachine c (call.Status name) None d) → d.side ≡ c.side → KeepsCount c b d (with_item b got)
keeps-status got b c d name err served side =
    keeps-quiet got b c d err (if-ok got (FollowsMachine c (call.Status name) None d) _ served (λ r h. log-long c d (call.Status name) None r h))
    (if-ok got (FollowsMachine c (call.Status name) None d) _ served (λ r h m s. call-counts c d m (call.Status name) None r s refl h side))

pub keeps-release : {E : Type 0} → (got : Result Reply E) (b : Budget) (c d : CoreView) (name : Name) → OnErr got (d ≡ c) → IfOk got (FollowsMachine c (call.Release name) None d) → d.side ≡ c.side → KeepsCount c b d (with_item b got)
keeps-release got b c d name err served side =
    keeps-quiet got b c d err (if-ok got (FollowsMachine c (call.Release name) None d) _ served (λ r h. log-long c d (call.Release name) None r h))
    (if-ok got (FollowsMachine c (call.Release name) None d) _ served (λ r h m s. call-counts c d m (call.Release name) None r s refl h side))

pub keeps-fetch : {E : Type 0} → (got : Result Fetched E) (b : Budget) (c d : CoreView) (name : Name) → OnErr got (d ≡ c) → IfOk got (λ f. FollowsMachine c (call.Fetch name) None d f.reply) → d.side ≡ c.side → KeepsCount c b d (with_item b got)
keeps-fetch got b c d name err served side =
    keeps-quiet got b c d err (if-ok got (λ f. FollowsMachine c (call.Fetch name) None d f.reply) _ served (λ f h. log-long c d (call.Fetch name) None f.reply h))
    (if-ok got (λ f. FollowsMachine c (call.Fetch name) None d f.reply) _ served (λ f h m s. call-counts c d m (call.Fetch name) None f.reply s refl h side))

cancel-most : (c : CoreView) (n : Name) (r : Reply) → call_bytes c (call.Cancel n) None r ≤ 128
cancel-most c n (reply.Accepted t) = omega arith
cancel-most c n (reply.Refused y) = omega arith
cancel-most c n (reply.Pending t) = omega arith
cancel-most c n (reply.Done t y) = omega arith
cancel-most c n (reply.Cancelled t) = omega arith
cancel-most c n (reply.OutOfMemory t) = omega arith
cancel-most c n (reply.BadInput t y) = omega arith
cancel-most c n (reply.Released t) = omega arith
cancel-most c n (reply.Shown t) = omega arith

pub keeps-cancel : {E : Type 0} → (got : Result Reply E) (b : Budget) (c d : CoreView) (name : Name) → OnErr got (d ≡ c) → IfOk got (FollowsMachine c (call.Cancel name) None d) → d.side ≡ c.side → KeepsCount c b d (with_item b got)
keeps-cancel got b c d name err served side =
    keeps-quiet got b c d err (if-ok got (FollowsMachine c (call.Cancel name) None d) _ served (λ r h. log-long c d (call.Cancel name) None r h))
    (if-ok got (FollowsMachine c (call.Cancel name) None d) _ served (λ r h m s. omega (arith, call-counts c d m (call.Cancel name) None r s refl h side, cancel-most c name r)))

-- ---- work

covers-less : (o : Option ℕ) (t s : ℕ) (c d : CoreView) → core_bytes d ≤ core_bytes c → CoversCore (parts o t s) c → CoversCore (parts o t s) d
covers-less None t s c d less h = tt
covers-less (Some most) t s c d less h = omega (arith, less, h)

within-longer : (o : Option ℕ) (t s : ℕ) (c d : CoreView) → length c.log ≤ length d.log → Within (parts o t s) c → Within (parts o t s) d
within-longer None t s c d longer h = tt
within-longer (Some most) t s c d longer h = omega (arith, longer, h)

-- work is run, and then a request is answered
pub keeps-worked : (c e d : CoreView) (b f : Budget) → ((m : Machine) → StandsFor c m → running_count c ≡ 0 → AllWorked m c e) → KeepsCount e b d f → KeepsCount c b d f
keeps-worked c e d b f worked k =
    let covered : (m : Machine) (s : StandsFor c m) (none : running_count c ≡ 0) → CoversCore b c → CoversCore b e
    = λ m s none h.
    let w = worked m s none in
    covers-less b.most b.taken b.beside c e (work-counts c e m w.state w.items s w.stands w.only w.run w.log w.side) h in
    record {
      bound = k.bound;
      covers = λ m s none h. let w = worked m s none in k.covers w.state w.stands w.idle (covered m s none h);
      within = λ m s none h i.
          let w = worked m s none in
          k.within w.state w.stands w.idle (covered m s none h) (within-longer b.most b.taken b.beside c e (omega (arith, ap length w.log, length-append c.log w.items)) i);
    }

-- ---- what is within the bound

pub covered-within : (o : Option ℕ) (t s : ℕ) (c : CoreView) → CoversCore (parts o t s) c → Within (parts o t s) c → IfSome o (λ most. told_bytes (core_bytes c + s) ≤ kept_part most + length c.log * 128)
covered-within None t s c covers within = tt
covered-within (Some most) t s c covers within = lower-within t (told_bytes (core_bytes c + s)) (kept_part most + length c.log * 128) covers within
