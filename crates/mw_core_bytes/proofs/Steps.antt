-- What a core is counted as, call by call and item by item of its work.
use Rattle.std.proofs.Common.{◌≡◌, ℕ, ◌+◌, ◌*◌, ◌<◌, ◌≤◌, true, false, inl, inr, List, [], ◌∷◌, ◌++◌, length, map, nat_eq, Option, Some, None, refl, sym, ap, ◌∙◌, subst, arith, length-append}
use Rattle.std.specs.Option.{option_map_or}
use Rattle.std.specs.List.{AllByRecursion, list_any}
use Rattle.std.proofs.lemmas.List.{get_or-set_same}
use Rattle.mw_model.proofs.mw_facts.Elements.{get_or-push_last}
use Rattle.mw_model.proofs.mw_facts.Finds.{option_cases}
use Rattle.mw_model.specs.declared.names.Name.{Name}
use Rattle.mw_model.specs.declared.shapes.Shape.{Shape}
use Rattle.mw_model.specs.declared.operations.Op.{Op}
use Rattle.mw_model.specs.declared.submissions.Submission.{Submission}
use Rattle.mw_model.specs.declared.codes.Code.{Code}
use Rattle.mw_model.specs.declared.calls.Outcome.{Outcome}
use Rattle.mw_model.specs.declared.calls.Outcome.TheVariants as outcome
use Rattle.mw_model.specs.declared.calls.Given.{Given}
use Rattle.mw_model.specs.declared.calls.Given.TheVariants as given
use Rattle.mw_model.specs.declared.calls.Call.{Call}
use Rattle.mw_model.specs.declared.calls.Call.TheVariants as call
use Rattle.mw_model.specs.declared.calls.Reply.{Reply}
use Rattle.mw_model.specs.declared.calls.Reply.TheVariants as reply
use Rattle.mw_model.specs.declared.calls.LogItem.{LogItem}
use Rattle.mw_model.specs.declared.calls.LogItem.TheVariants as item
use Rattle.mw_model.specs.Values.{Value, tickets, value_at}
use Rattle.mw_model.specs.Refusals.{Table, Wanted, ticket, ticket_of, submission_at, no_submission, outcome_at, is_pending, is_dead, is_released, cancel_case, inputs_wanted, wanted_case, first_of, name_taken, no_room, fault_of, refusal}
use Rattle.mw_model.specs.Machine.{Machine, Step, Run, IsWith, CanDie, values, settled, killed, given_submission, run_submission, shape_of_given, ticket_wanted, unless_refused, reply_to, after}
use Rattle.mw_model.specs.Stands.{CoreView, StandsFor, Agrees, inputs_of, is_wanted}
use Rattle.mw_core.specs.mw_model_laws.MachineLaws.{IsSound, GrowsTo, IsKilled}
use Rattle.mw_core.proofs.mw_model_laws.RunTables.{is_known, ticket_within, ticket_is, may_cancel, first_none}
use Rattle.mw_core.proofs.mw_model_laws.RunStates.{reached, step_sound}
use Rattle.mw_core.proofs.mw_model_laws.RunGrowth.{step_grows, grows_added}
use Rattle.mw_core.proofs.mw_model_laws.RunSteps.{pushed}
use Rattle.mw_core.proofs.mw_model_laws.RunCascade.{is_killed, dead_not_pending}
use Rattle.mw_core.proofs.mw_model_laws.RunValues.{values_push, length_values}
use Rattle.mw_core.proofs.mw_model_laws.RunReplay.{refused_leaves, refusal_tells, status_leaves, fetch_leaves}
use Rattle.mw_core.specs.mw_core_laws.Events.{FollowsMachine}
use Rattle.mw_core.specs.Costs.{least_side, pending_bytes, run_bytes, result_beyond, shaped_bytes, entry_bytes, core_bytes}
use Rattle.mw_core.specs.mw_store.Entries.{op_of}
use Rattle.mw_session_laws.specs.Marks.{OnlyWork}
use Rattle.mw_core_bytes.specs.Growth.{payload_bytes, call_bytes}
use Rattle.mw_core_bytes.proofs.Sums.{total, total-last, total-le, total-same, total-falls}
use Rattle.mw_core_bytes.proofs.Asked.{Known, AreAsked, asked-step, reached-asked, run-known, run-asks}
use Rattle.mw_core_bytes.proofs.Alike.{IsHeld, both, place-of, full, showing, pending-alike, pending-held, element-there, there-cases}
use Rattle.mw_core_bytes.proofs.States.{counted, run_part, value_part, state_entry, NoneWantedAnew, entry-shown, entry-falls, entry-settles, goes-alike}
use Rattle.mw_core_bytes.proofs.Anew.{none-anew, none-anew-same, input-held, none-released}

-- ---- all entries of a state

abbrev pub state_bytes : ℕ → Machine → ℕ
state_bytes side m = total (λ t. state_entry side m t + 1024) (length m.table.names)

abbrev entries_of : CoreView → ℕ
entries_of c = total (λ t. entry_bytes c t + 1024) (length c.table.names)

state-shown : (c : CoreView) (m : Machine) → StandsFor c m → entries_of c ≡ state_bytes c.side m
state-shown c m s =
    let sound = reached c.log m s.run in
    let asked = reached-asked c.log m s.run in
    let table : entries_of c ≡ entries_of (showing c m) = ap (λ (w : Table). entries_of (record c { table = w })) s.table in
    let each = total-same (λ t. entry_bytes (showing c m) t + 1024) (λ t. state_entry c.side m t + 1024) (length m.table.names) (λ t l. ap (λ (n : ℕ). n + 1024) (entry-shown c m t sound asked s.agrees l)) in
    table ∙ each

pub core-shown : (c : CoreView) (m : Machine) → StandsFor c m → core_bytes c ≡ (length c.log + 16) * 128 + state_bytes c.side m
core-shown c m s = ap (λ (n : ℕ). (length c.log + 16) * 128 + n) (state-shown c m s)

-- ---- the entries, step by step

state-falls : (side : ℕ) (m n : Machine) → IsSound m → AreAsked m.table → GrowsTo m n → NoneWantedAnew m n → length n.table.names ≡ length m.table.names → state_bytes side n ≤ state_bytes side m
state-falls side m n s asked grows none same =
    let f : ℕ → ℕ = λ t. state_entry side n t + 1024 in
    let g : ℕ → ℕ = λ t. state_entry side m t + 1024 in
    let less = total-le f g (length m.table.names) (λ t l. omega (arith, entry-falls side m n t s asked grows none l)) in
    omega (arith, less, ap (total f) same)

state-settles : (side : ℕ) (m n : Machine) (t : ℕ) → IsSound m → AreAsked m.table → GrowsTo m n → length n.table.names ≡ length m.table.names → t < length m.table.names
    → outcome_at m.table.outcomes t ≡ outcome.Pending → is_pending (outcome_at n.table.outcomes t) ≡ false → state_bytes side n + 128 ≤ state_bytes side m
state-settles side m n t s asked grows same l pending settles =
    let f : ℕ → ℕ = λ u. state_entry side n u + 1024 in
    let g : ℕ → ℕ = λ u. state_entry side m u + 1024 in
    let none = none-anew-same m n s grows same in
    let less = total-falls f g (length m.table.names) t 128 l (omega (arith, entry-settles side m n t s asked grows l pending settles)) (λ u k. omega (arith, entry-falls side m n u s asked grows none k)) in
    omega (arith, less, ap (total f) same)

state-grows : (side more : ℕ) (m n : Machine) → IsSound m → AreAsked m.table → GrowsTo m n → NoneWantedAnew m n → length n.table.names ≡ length m.table.names + 1 → state_entry side n (length m.table.names) ≤ more
    → state_bytes side n ≤ state_bytes side m + (more + 1024)
state-grows side more m n s asked grows none long last =
    let f : ℕ → ℕ = λ t. state_entry side n t + 1024 in
    let g : ℕ → ℕ = λ t. state_entry side m t + 1024 in
    let less = total-le f g (length m.table.names) (λ t l. omega (arith, entry-falls side m n t s asked grows none l)) in
    omega (arith, less, total-last f (length m.table.names) (length n.table.names) long, last)

-- ---- work

dies : (m : Machine) (t : ℕ) (cause : Outcome) → IsSound m → CanDie m.table t → is_dead cause ≡ true → is_pending (outcome_at (killed m.table t cause).outcomes t) ≡ false
dies m t cause s can dead =
    let w = m.table in
    let outs : length w.outcomes ≡ length w.names = s.lengths.outcomes in
    let same : length w.submissions ≡ length w.outcomes = omega (arith, s.lengths.submissions) in
    let k : IsKilled w (killed w t cause) t cause = is_killed w t cause same (λ u h. s.inputs u (omega arith)) can.within (dead_not_pending cause dead) in
    ap is_pending k.dies ∙ dead_not_pending cause dead

-- an item of the log of work is paid by what it ends
abbrev IsWork : LogItem → Type 0
IsWork (item.Call c r) = ⊥
IsWork (item.Finished t) = Unit {0}
IsWork (item.Killed t) = Unit {0}

work-step : (side : ℕ) (m : Machine) (i : LogItem) (n : Machine) → IsSound m → AreAsked m.table → IsWork i → Step m i n → state_bytes side n + 128 ≤ state_bytes side m
unfolding killed
work-step side m (item.Call c r) n s asked h step = absurd h
work-step side m (item.Finished t) n s asked h step =
    let grows = step_grows m (item.Finished t) n s step in
    let can = step.0 in
    let within : t < length m.table.names = omega (arith, can.within, s.lengths.outcomes) in
    let same : length n.table.names ≡ length m.table.names = ap (λ (k : Machine). length k.table.names) step.1 in
    let done : outcome_at n.table.outcomes t ≡ outcome.Done = ap (λ (k : Machine). outcome_at k.table.outcomes t) step.1 ∙ get_or-set_same m.table.outcomes t outcome.Done outcome.Pending can.within in
    state-settles side m n t s asked grows same within can.pending (ap is_pending done)
work-step side m (item.Killed t) n s asked h step =
    let grows = step_grows m (item.Killed t) n s step in
    let can = step.0 in
    let within : t < length m.table.names = omega (arith, can.within, s.lengths.outcomes) in
    let same : length n.table.names ≡ length m.table.names = ap (λ (k : Machine). length k.table.names) step.1 in
    let dead : is_pending (outcome_at n.table.outcomes t) ≡ false = ap (λ (k : Machine). is_pending (outcome_at k.table.outcomes t)) step.1 ∙ dies m t outcome.Memory s can refl in
    state-settles side m n t s asked grows same within can.pending dead

-- an item before others
work-more : (side : ℕ) (i : LogItem) (items : List LogItem) (m n : Machine) → IsSound m → AreAsked m.table → IsWork i → (run : Run m (i ∷ items) n) → state_bytes side n + length items * 128 ≤ state_bytes side run.0
    → state_bytes side n + length (i ∷ items) * 128 ≤ state_bytes side m
work-more side i items m n s asked h run more = omega (arith, work-step side m i run.0 s asked h run.1, more)

work-run : (side : ℕ) (items : List LogItem) (m n : Machine) → IsSound m → AreAsked m.table → OnlyWork items → Run m items n → state_bytes side n + length items * 128 ≤ state_bytes side m
work-run side [] m n s asked h run = let same : state_bytes side n ≡ state_bytes side m = ap (state_bytes side) run in omega (arith, same)
work-run side (item.Call c r ∷ items) m n s asked h run = absurd h
work-run side (item.Finished t ∷ items) m n s asked h run = work-more side (item.Finished t) items m n s asked tt run (work-run side items run.0 n (step_sound m (item.Finished t) run.0 s run.1) (asked-step m (item.Finished t) run.0 s asked run.1) h run.2)
work-run side (item.Killed t ∷ items) m n s asked h run = work-more side (item.Killed t) items m n s asked tt run (work-run side items run.0 n (step_sound m (item.Killed t) run.0 s run.1) (asked-step m (item.Killed t) run.0 s asked run.1) h run.2)

-- work takes nothing
pub work-counts : (c new : CoreView) (m n : Machine) (items : List LogItem) → StandsFor c m → StandsFor new n → OnlyWork items → Run m items n → new.log ≡ c.log ++ items → new.side ≡ c.side → core_bytes new ≤ core_bytes c
work-counts c new m n items s t h run log side =
    let less = work-run c.side items m n (reached c.log m s.run) (reached-asked c.log m s.run) h run in
    let old = core-shown c m s in
    let now = core-shown new n t in
    let at : state_bytes new.side n ≡ state_bytes c.side n = ap (λ (x : ℕ). state_bytes x n) side in
    omega (arith, less, old, now, at, ap length log, length-append c.log items)

-- ---- calls that change no entry

-- the core is counted for the state after a call
item-more : (c new : CoreView) (m n : Machine) (q : Call) (r : Reply) (more : ℕ) → StandsFor c m → StandsFor new n → new.log ≡ c.log ++ item.Call q r ∷ [] → new.side ≡ c.side → state_bytes c.side n ≤ state_bytes c.side m + more
    → core_bytes new ≤ core_bytes c + (more + 128)
item-more c new m n q r more s t log side less =
    let old = core-shown c m s in
    let now = core-shown new n t in
    let at : state_bytes new.side n ≡ state_bytes c.side n = ap (λ (x : ℕ). state_bytes x n) side in
    omega (arith, less, old, now, at, ap length log, length-append c.log (item.Call q r ∷ []))

-- where the state stays
stays : (c new : CoreView) (m : Machine) (q : Call) (p : Option Value) (r : Reply) → StandsFor c m → FollowsMachine c q p new r → new.side ≡ c.side → after m q p ≡ m → core_bytes new ≤ core_bytes c + 128
stays c new m q p r s h side same =
    let P : Machine → Type 0 = λ k. StandsFor new k in
    let none : state_bytes c.side m ≤ state_bytes c.side m + 0 = omega arith in
    item-more c new m m q r 0 s (subst P same (h.stands m s)) h.log side none

-- a call that is refused
call-refused : (c new : CoreView) (m : Machine) (q : Call) (p : Option Value) (r : Reply) (x : Code) → StandsFor c m → FollowsMachine c q p new r → new.side ≡ c.side → refusal m.table m.payloads q ≡ Some x → core_bytes new ≤ core_bytes c + call_bytes c q p (reply.Refused x)
call-refused c new m (call.Load n g) p r x s h side why = stays c new m (call.Load n g) p r s h side (refused_leaves m (call.Load n g) p x why)
call-refused c new m (call.Element n g) p r x s h side why = stays c new m (call.Element n g) p r s h side (refused_leaves m (call.Element n g) p x why)
call-refused c new m (call.Run n o) p r x s h side why = stays c new m (call.Run n o) p r s h side (refused_leaves m (call.Run n o) p x why)
call-refused c new m (call.Cancel n) p r x s h side why = stays c new m (call.Cancel n) p r s h side (refused_leaves m (call.Cancel n) p x why)
call-refused c new m (call.Status n) p r x s h side why = stays c new m (call.Status n) p r s h side (refused_leaves m (call.Status n) p x why)
call-refused c new m (call.Fetch n) p r x s h side why = stays c new m (call.Fetch n) p r s h side (refused_leaves m (call.Fetch n) p x why)
call-refused c new m (call.Release n) p r x s h side why = stays c new m (call.Release n) p r s h side (refused_leaves m (call.Release n) p x why)

-- ---- payloads

push-length : (m : Machine) (n : Name) (e : Submission) (o : Outcome) (p : Option Value) → length (pushed m n e o p).table.names ≡ length m.table.names + 1
push-length m n e o p = length-append m.table.names (n ∷ [])

push-value : (m : Machine) (n : Name) (g : Given) (p : Option Value) → IsSound m → value_at (values (pushed m n (given_submission g) outcome.Done p)) (length m.table.names) ≡ p
push-value m n g p s =
    let e = given_submission g in
    let w = m.table in
    let more = values_push [] w.submissions m.payloads e p (omega (arith, s.lengths.submissions, s.lengths.payloads)) in
    let many = length_values [] w.submissions m.payloads (omega (arith, s.lengths.submissions, s.lengths.payloads)) in
    ap (λ (vs : List (Option Value)). value_at vs (length w.names)) more ∙ get_or-push_last (values m) p None (length w.names) (omega (arith, many, s.lengths.submissions))

given-last : (side : ℕ) (m : Machine) (n : Name) (g : Given) (p : Option Value) → IsSound m → state_entry side (pushed m n (given_submission g) outcome.Done p) (length m.table.names) ≡ shaped_bytes (shape_of_given g) p (least_side side) 0
given-last side m n g p s =
    let w = m.table in
    let e = given_submission g in
    let k = pushed m n e outcome.Done p in
    let t = length w.names in
    let is : outcome_at k.table.outcomes t ≡ outcome.Done = get_or-push_last w.outcomes outcome.Done outcome.Pending t (omega (arith, s.lengths.outcomes)) in
    let entry : submission_at k.table.submissions t ≡ e = get_or-push_last w.submissions e no_submission t (omega (arith, s.lengths.submissions)) in
    ap (λ (o : Outcome). counted o (is_wanted k.table t) (run_part side k t) (value_part side k t)) is
    ∙ ap (λ (x : Submission). shaped_bytes x.shape (value_at (values k) t) (least_side side) (result_beyond k.table (op_of x.command))) entry
    ∙ ap (λ (v : Option Value). shaped_bytes e.shape v (least_side side) 0) (push-value m n g p s)

given-anew : (m : Machine) (n : Name) (g : Given) (p : Option Value) → IsSound m → GrowsTo m (pushed m n (given_submission g) outcome.Done p) → NoneWantedAnew m (pushed m n (given_submission g) outcome.Done p)
given-anew m n g p s grows =
    let e = given_submission g in
    let k = pushed m n e outcome.Done p in
    none-anew m k s grows (λ t u released past l input.
    let entry : submission_at k.table.submissions u ≡ e = get_or-push_last m.table.submissions e no_submission u (omega (arith, past, l, push-length m n e outcome.Done p, s.lengths.submissions)) in
    let none : list_any (nat_eq t) (inputs_of k.table u) ≡ false = ap (λ (x : Submission). list_any (nat_eq t) (tickets x.inputs)) entry in
    let clash : true ≡ false = sym input ∙ none in
    absurd cc)

given-counts : (c new : CoreView) (m : Machine) (q : Call) (n : Name) (x : Shape) (p : Option Value) (r : Reply) → StandsFor c m → FollowsMachine c q p new r → new.side ≡ c.side → after m q p ≡ pushed m n (given_submission (given.Good x)) outcome.Done p
    → core_bytes new ≤ core_bytes c + (payload_bytes c (given.Good x) p + 128)
given-counts c new m q n x p r s h side is =
    let g = given.Good x in
    let sound = reached c.log m s.run in
    let e = given_submission g in
    let k = pushed m n e outcome.Done p in
    let value = shaped_bytes x p (least_side c.side) 0 in
    let grows = grows_added m n e outcome.Done p sound in
    let last = given-last c.side m n g p sound in
    let less = state-grows c.side value m k sound (reached-asked c.log m s.run) grows (given-anew m n g p sound grows) (push-length m n e outcome.Done p) (omega (arith, last)) in
    let P : Machine → Type 0 = λ y. StandsFor new y in
    item-more c new m k q r (value + 1024) s (subst P is (h.stands m s)) h.log side less

-- ---- commands

all-held : (w : Table) (xs : List Wanted) → first_of (map (wanted_case w) xs) ≡ None → AllByRecursion (λ x. (i : ℕ) → ticket_wanted w x ≡ Some i → is_released (outcome_at w.outcomes i) ≡ false) xs
all-held w [] h = tt
all-held w (x ∷ xs) h = let a = first_none (wanted_case w x) (map (wanted_case w) xs) h in ((λ i e. input-held w x i a.0 e), all-held w xs a.1)

run-held : (c : CoreView) (m : Machine) (n : Name) (o : Op) → IsSound m → Agrees c.kept m → refusal m.table m.payloads (call.Run n o) ≡ None → AllByRecursion (IsHeld c.kept m) (inputs_wanted o)
run-held c m n o s a free =
    let w = m.table in
    let Held : Wanted → Type 0 = λ x. (i : ℕ) → ticket_wanted w x ≡ Some i → is_released (outcome_at w.outcomes i) ≡ false in
    let one : (x : Wanted) → Known w x → Held x → IsHeld c.kept m x
    = λ x k held. (
      k,
      λ is. elim (there-cases (outcome_at w.outcomes k.place) (element-there m k.place s k.within is)) [
        | inl done ↦ a.done k.place k.within done
        | inr gone ↦ let clash : true ≡ false = sym (ap is_released gone) ∙ held k.place (place-of w x k) in absurd cc
      ],
    ) in
    both (Known w) Held (IsHeld c.kept m) (inputs_wanted o) one (run-known w m.payloads n o free) (all-held w (inputs_wanted o) (run-asks w m.payloads n o free))

run-last : (c : CoreView) (m : Machine) (n : Name) (o : Op) → StandsFor c m → IsSound m → refusal m.table m.payloads (call.Run n o) ≡ None
    → state_entry c.side (pushed m n (run_submission m.table o) outcome.Pending None) (length m.table.names) ≡ pending_bytes c o
run-last c m n o s sound free =
    let w = m.table in
    let e = run_submission w o in
    let k = pushed m n e outcome.Pending None in
    let t = length w.names in
    let is : outcome_at k.table.outcomes t ≡ outcome.Pending = get_or-push_last w.outcomes outcome.Pending outcome.Pending t (omega (arith, sound.lengths.outcomes)) in
    let entry : submission_at k.table.submissions t ≡ e = get_or-push_last w.submissions e no_submission t (omega (arith, sound.lengths.submissions)) in
    ap (λ (y : Outcome). counted y (is_wanted k.table t) (run_part c.side k t) (value_part c.side k t)) is
    ∙ ap (λ (x : Submission). option_map_or (pending_bytes (full c.side k)) (op_of x.command) 0) entry
    ∙ pending-alike (full c.side m) (full c.side k) o (goes-alike c.side m k o sound (grows_added m n e outcome.Pending None sound) (run-known w m.payloads n o free))
    ∙ sym (pending-held c m o sound s.agrees (run-held c m n o sound s.agrees free))
    ∙ ap (λ (x : Table). pending_bytes (record c { table = x }) o) (sym s.table)

run-anew : (m : Machine) (n : Name) (o : Op) → IsSound m → refusal m.table m.payloads (call.Run n o) ≡ None → GrowsTo m (pushed m n (run_submission m.table o) outcome.Pending None) → NoneWantedAnew m (pushed m n (run_submission m.table o) outcome.Pending None)
run-anew m n o s free grows =
    let e = run_submission m.table o in
    let k = pushed m n e outcome.Pending None in
    none-anew m k s grows (λ t u released past l input.
    let entry : submission_at k.table.submissions u ≡ e = get_or-push_last m.table.submissions e no_submission u (omega (arith, past, l, push-length m n e outcome.Pending None, s.lengths.submissions)) in
    let own : list_any (nat_eq t) (tickets e.inputs) ≡ true = sym (ap (λ (x : Submission). list_any (nat_eq t) (tickets x.inputs)) entry) ∙ input in
    none-released m.table m.payloads n o t free released own)

run-counts : (c new : CoreView) (m : Machine) (n : Name) (o : Op) (r : Reply) → StandsFor c m → FollowsMachine c (call.Run n o) None new r → new.side ≡ c.side → refusal m.table m.payloads (call.Run n o) ≡ None
    → core_bytes new ≤ core_bytes c + (run_bytes c o + 128)
run-counts c new m n o r s h side free =
    let sound = reached c.log m s.run in
    let e = run_submission m.table o in
    let k = pushed m n e outcome.Pending None in
    let grows = grows_added m n e outcome.Pending None sound in
    let last = run-last c m n o s sound free in
    let less = state-grows c.side (pending_bytes c o) m k sound (reached-asked c.log m s.run) grows (run-anew m n o sound free grows) (push-length m n e outcome.Pending None) (omega (arith, last)) in
    let is : after m (call.Run n o) None ≡ k = rw free refl in
    let P : Machine → Type 0 = λ x. StandsFor new x in
    item-more c new m k (call.Run n o) r (pending_bytes c o + 1024) s (subst P is (h.stands m s)) h.log side less

-- ---- CANCEL and RELEASE

-- the step that a call is
call-step : (m : Machine) (q : Call) (p : Option Value) → IsWith q p → Step m (item.Call q (reply_to m q)) (after m q p)
call-step m q p with = (p, with, refl, refl)

cancelled : (m : Machine) (n : Name) (p : Option Value) (t : ℕ) → refusal m.table m.payloads (call.Cancel n) ≡ None → ticket_of m.table.names n ≡ Some t → (after m (call.Cancel n) p).table ≡ killed m.table t outcome.Cancelled
cancelled m n p t free is =
    ap (λ (x : Option Code). unless_refused x m.table (killed m.table (ticket m.table n) outcome.Cancelled)) free ∙ ap (λ (u : ℕ). killed m.table u outcome.Cancelled) (ticket_is m.table n t is)

killed-names : (w : Table) (t : ℕ) (cause : Outcome) → (killed w t cause).names ≡ w.names
unfolding killed
killed-names w t cause = refl

cancel-counts : (c new : CoreView) (m : Machine) (n : Name) (p : Option Value) (r : Reply) → StandsFor c m → IsWith (call.Cancel n) p → FollowsMachine c (call.Cancel n) p new r → new.side ≡ c.side → refusal m.table m.payloads (call.Cancel n) ≡ None
    → core_bytes new ≤ core_bytes c + 0
cancel-counts c new m n p r s with h side free =
    let q = call.Cancel n in
    let sound = reached c.log m s.run in
    let k = after m q p in
    let known = is_known (ticket_of m.table.names n) (λ u. cancel_case (outcome_at m.table.outcomes u)) free in
    let t = known.0 in
    let within = ticket_within m.table n t known.1 in
    let can : CanDie m.table t = record { within = omega (arith, within, sound.lengths.outcomes); pending = may_cancel (outcome_at m.table.outcomes t) known.2 } in
    let is = cancelled m n p t free known.1 in
    let same : length k.table.names ≡ length m.table.names = ap (λ (w : Table). length w.names) is ∙ ap length (killed-names m.table t outcome.Cancelled) in
    let dead : is_pending (outcome_at k.table.outcomes t) ≡ false = ap (λ (w : Table). is_pending (outcome_at w.outcomes t)) is ∙ dies m t outcome.Cancelled sound can refl in
    let grows = step_grows m (item.Call q (reply_to m q)) k sound (call-step m q p with) in
    let less = state-settles c.side m k t sound (reached-asked c.log m s.run) grows same within can.pending dead in
    let old = core-shown c m s in
    let now = core-shown new k (h.stands m s) in
    let at : state_bytes new.side k ≡ state_bytes c.side k = ap (λ (x : ℕ). state_bytes x k) side in
    omega (arith, less, old, now, at, ap length h.log, length-append c.log (item.Call q r ∷ []))

release-counts : (c new : CoreView) (m : Machine) (n : Name) (p : Option Value) (r : Reply) → StandsFor c m → IsWith (call.Release n) p → FollowsMachine c (call.Release n) p new r → new.side ≡ c.side → refusal m.table m.payloads (call.Release n) ≡ None
    → core_bytes new ≤ core_bytes c + 128
release-counts c new m n p r s with h side free =
    let q = call.Release n in
    let sound = reached c.log m s.run in
    let k = after m q p in
    let is : k.table ≡ settled m.table (ticket m.table n) outcome.Released = ap (λ (x : Option Code). unless_refused x m.table (settled m.table (ticket m.table n) outcome.Released)) free in
    let same : length k.table.names ≡ length m.table.names = ap (λ (w : Table). length w.names) is in
    let grows = step_grows m (item.Call q (reply_to m q)) k sound (call-step m q p with) in
    let less = state-falls c.side m k sound (reached-asked c.log m s.run) grows (none-anew-same m k sound grows same) same in
    item-more c new m k q r 0 s (h.stands m s) h.log side (omega (arith, less))

-- ---- all calls

-- by whether it is refused
either : (c new : CoreView) (m : Machine) (q : Call) (p : Option Value) (r : Reply) → StandsFor c m → FollowsMachine c q p new r → new.side ≡ c.side
    → (refusal m.table m.payloads q ≡ None → core_bytes new ≤ core_bytes c + call_bytes c q p r) → core_bytes new ≤ core_bytes c + call_bytes c q p r
either c new m q p r s h side free = elim (option_cases (refusal m.table m.payloads q)) [
  | inl none ↦ free none
  | inr why ↦
      let told : r ≡ reply.Refused why.0 = h.reply m s ∙ refusal_tells m q why.0 why.1 in
      let P : Reply → Type 0 = λ x. core_bytes new ≤ core_bytes c + call_bytes c q p x in
      subst P (sym told) (call-refused c new m q p r why.0 s h side why.1)
]

-- a payload that is none is refused
pub bad-refused : (w : Table) (n : Name) (x : Code) → first_of (name_taken w n ∷ no_room w ∷ fault_of (given.Bad x) ∷ []) ≡ None → ⊥
bad-refused w n x free =
    let a = first_none (name_taken w n) (no_room w ∷ fault_of (given.Bad x) ∷ []) free in
    let b = first_none (no_room w) (fault_of (given.Bad x) ∷ []) a.1 in
    let z : Some x ≡ None = b.1 in
    cc

load-counts : (c new : CoreView) (m : Machine) (n : Name) (g : Given) (p : Option Value) (r : Reply) → StandsFor c m → FollowsMachine c (call.Load n g) p new r → new.side ≡ c.side → core_bytes new ≤ core_bytes c + call_bytes c (call.Load n g) p r
load-counts c new m n (given.Good x) p r s h side = either c new m (call.Load n (given.Good x)) p r s h side (λ free.
    let told : r ≡ reply.Accepted (length m.table.names) = h.reply m s ∙ rw free refl in
    let P : Reply → Type 0 = λ y. core_bytes new ≤ core_bytes c + call_bytes c (call.Load n (given.Good x)) p y in
    subst P (sym told) (given-counts c new m (call.Load n (given.Good x)) n x p r s h side (rw free refl)))
load-counts c new m n (given.Bad x) p r s h side = either c new m (call.Load n (given.Bad x)) p r s h side (λ free. absurd (bad-refused m.table n x free))

pub element-counts : (c new : CoreView) (m : Machine) (n : Name) (g : Given) (p : Option Value) (r : Reply) → StandsFor c m → FollowsMachine c (call.Element n g) p new r → new.side ≡ c.side → core_bytes new ≤ core_bytes c + call_bytes c (call.Element n g) p r
element-counts c new m n (given.Good x) p r s h side = either c new m (call.Element n (given.Good x)) p r s h side (λ free.
    let told : r ≡ reply.Accepted (length m.table.names) = h.reply m s ∙ rw free refl in
    let P : Reply → Type 0 = λ y. core_bytes new ≤ core_bytes c + call_bytes c (call.Element n (given.Good x)) p y in
    subst P (sym told) (given-counts c new m (call.Element n (given.Good x)) n x p r s h side (rw free refl)))
element-counts c new m n (given.Bad x) p r s h side = either c new m (call.Element n (given.Bad x)) p r s h side (λ free. absurd (bad-refused m.table n x free))

-- a call takes what it asks for, at most
pub call-counts : (c new : CoreView) (m : Machine) (q : Call) (p : Option Value) (r : Reply) → StandsFor c m → IsWith q p → FollowsMachine c q p new r → new.side ≡ c.side → core_bytes new ≤ core_bytes c + call_bytes c q p r
call-counts c new m (call.Load n g) p r s with h side = load-counts c new m n g p r s h side
call-counts c new m (call.Element n g) p r s with h side = element-counts c new m n g p r s h side
call-counts c new m (call.Run n o) p r s with h side = either c new m (call.Run n o) p r s h side (λ free.
    let told : r ≡ reply.Accepted (length m.table.names) = h.reply m s ∙ rw free refl in
    let P : Reply → Type 0 = λ x. core_bytes new ≤ core_bytes c + call_bytes c (call.Run n o) p x in
    let Q : Option Value → Type 0 = λ v. FollowsMachine c (call.Run n o) v new r in
    subst P (sym told) (run-counts c new m n o r s (subst Q with h) side free))
call-counts c new m (call.Cancel n) p r s with h side = either c new m (call.Cancel n) p r s h side (λ free.
    let told : r ≡ reply.Accepted (ticket m.table n) = h.reply m s ∙ rw free refl in
    let P : Reply → Type 0 = λ x. core_bytes new ≤ core_bytes c + call_bytes c (call.Cancel n) p x in
    subst P (sym told) (cancel-counts c new m n p r s with h side free))
call-counts c new m (call.Status n) p r s with h side = stays c new m (call.Status n) p r s h side (status_leaves m n p)
call-counts c new m (call.Fetch n) p r s with h side = stays c new m (call.Fetch n) p r s h side (fetch_leaves m n p)
call-counts c new m (call.Release n) p r s with h side = either c new m (call.Release n) p r s h side (λ free. release-counts c new m n p r s with h side free)
