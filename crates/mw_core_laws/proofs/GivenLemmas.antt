-- An element comes from a payload, and is never pending.
use Rattle.std.proofs.Common.{◌≡◌, ◌≢◌, ℕ, ◌<◌, true, false, inl, inr, List, [], ◌∷◌, length, map, set, Option, Some, None, refl, sym, ap, ◌∙◌, subst, arith, length-append}
use Rattle.std.proofs.lemmas.List.{get_or-set_same, get_or-set_other, set_past}
use Rattle.std.proofs.lemmas.Bool.{cases_lt, cases_eq}
use Rattle.mw_model.proofs.mw_facts.Elements.{get_or-push_below, get_or-push_last}
use Rattle.mw_model.proofs.mw_facts.Numbers.{below_or_last}
use Rattle.mw_model.specs.declared.names.Name.{Name}
use Rattle.mw_model.specs.declared.submissions.Submission.{Submission}
use Rattle.mw_model.specs.declared.submissions.Command.TheVariants as command
use Rattle.mw_model.specs.declared.codes.Code.{Code}
use Rattle.mw_model.specs.declared.calls.Outcome.{Outcome}
use Rattle.mw_model.specs.declared.calls.Outcome.TheVariants as outcome
use Rattle.mw_model.specs.declared.calls.Call.{Call}
use Rattle.mw_model.specs.declared.calls.Call.TheVariants as call
use Rattle.mw_model.specs.declared.calls.LogItem.{LogItem}
use Rattle.mw_model.specs.declared.calls.LogItem.TheVariants as item
use Rattle.mw_model.specs.Refusals.{Table, ticket, ticket_of, no_submission, outcome_at, submission_at, shape_at, is_pending, is_element, first_of, name_taken, no_room, wanted_case, cancel_case, inputs_wanted, refusal}
use Rattle.mw_model.specs.Machine.{Machine, Step, Run, start_state, with_entry, killed, given_submission, run_submission, changed, unless_refused}
use Rattle.mw_store.specs.mw_model_laws.MachineLaws.{IsSound}
use Rattle.mw_store.proofs.mw_model_laws.RunCascade.{is_killed}
use Rattle.mw_store.proofs.mw_model_laws.RunTables.{first_none, is_known, ticket_is, ticket_within}
use Rattle.mw_store.proofs.mw_model_laws.RunStates.{step_sound, start_sound}
use Rattle.mw_store.proofs.mw_model_laws.RunShapes.{result_no_element}

-- each element comes from a payload, and is not pending
abbrev pub ElementsGiven : Table → Type 0
ElementsGiven w =
    (t : ℕ) → t < length w.names → is_element (shape_at w.submissions t) ≡ true
    → ((submission_at w.submissions t).command ≡ command.Given) × (is_pending (outcome_at w.outcomes t) ≡ false)

-- ---- one entry more

given-push : (w : Table) (n : Name) (e : Submission) (o : Outcome) → length w.submissions ≡ length w.names → length w.outcomes ≡ length w.names → ElementsGiven w
    → (is_element e.shape ≡ true → (e.command ≡ command.Given) × (is_pending o ≡ false)) → ElementsGiven (with_entry w n e o)
given-push w n e o subs outs old new t within h =
    let N = length w.names in
    elim (below_or_last N t (omega (arith, length-append w.names (n ∷ [])))) [
      | inl l ↦
          let entry = get_or-push_below w.submissions e no_submission t (omega arith) in
          let stands = get_or-push_below w.outcomes o outcome.Pending t (omega arith) in
          let was = old t l (sym (ap (λ (x : Submission). is_element x.shape) entry) ∙ h) in
          (ap (λ (x : Submission). x.command) entry ∙ was.0, ap is_pending stands ∙ was.1)
      | inr l ↦
          let entry = get_or-push_last w.submissions e no_submission t (omega arith) in
          let stands = get_or-push_last w.outcomes o outcome.Pending t (omega arith) in
          let is = new (sym (ap (λ (x : Submission). is_element x.shape) entry) ∙ h) in
          (ap (λ (x : Submission). x.command) entry ∙ is.0, ap is_pending stands ∙ is.1)
    ]

-- ---- other outcomes

given-outcomes : (w : Table) (os : List Outcome) → ((t : ℕ) → is_pending (outcome_at w.outcomes t) ≡ false → is_pending (outcome_at os t) ≡ false) → ElementsGiven w
    → ElementsGiven (record w { outcomes = os })
given-outcomes w os stays old t within h = let was = old t within h in (was.0, stays t was.1)

set-settled : (os : List Outcome) (t : ℕ) (o : Outcome) → is_pending o ≡ false → (u : ℕ) → is_pending (outcome_at os u) ≡ false → is_pending (outcome_at (set os t o) u) ≡ false
set-settled os t o e u h =
    elim (cases_eq u t) [
      | inl same ↦ elim (cases_lt t (length os)) [
        | inl l ↦ let here : outcome_at (set os t o) u ≡ o = rw same (get_or-set_same os t o outcome.Pending l) in ap is_pending here ∙ e
        | inr past ↦ let as_was : set os t o ≡ os = set_past os t o past in ap (λ xs. is_pending (outcome_at xs u)) as_was ∙ h
      ]
      | inr other ↦ ap is_pending (get_or-set_other os t u o outcome.Pending other) ∙ h
    ]

kill-settled : (m : Machine) (t : ℕ) (cause : Outcome) → IsSound m → t < length m.table.outcomes → is_pending cause ≡ false
    → (u : ℕ) → is_pending (outcome_at m.table.outcomes u) ≡ false → is_pending (outcome_at (killed m.table t cause).outcomes u) ≡ false
kill-settled m t cause s within dead u h =
    let k = is_killed m.table t cause (s.lengths.submissions ∙ sym s.lengths.outcomes) (λ v l. s.inputs v (omega (arith, s.lengths.outcomes))) within dead in
    elim (cases_eq u t) [
      | inl same ↦ let here : outcome_at (killed m.table t cause).outcomes u ≡ cause = rw same k.dies in ap is_pending here ∙ dead
      | inr other ↦
          let settled_before : outcome_at m.table.outcomes u ≢ outcome.Pending = λ e. let f = ap is_pending e in cc in
          ap is_pending (k.settled u other settled_before) ∙ h
    ]

given-killed : (m : Machine) (t : ℕ) (cause : Outcome) → IsSound m → t < length m.table.outcomes → is_pending cause ≡ false → ElementsGiven m.table → ElementsGiven (killed m.table t cause)
unfolding killed
given-killed m t cause s within dead old = given-outcomes m.table (killed m.table t cause).outcomes (kill-settled m t cause s within dead) old

-- ---- steps

given-unless : (r : Option Code) (w v : Table) → ElementsGiven w → (r ≡ None → ElementsGiven v) → ElementsGiven (unless_refused r w v)
given-unless None w v old new = new refl
given-unless (Some c) w v old new = old

given-changed : (m : Machine) (c : Call) → IsSound m → ElementsGiven m.table → refusal m.table m.payloads c ≡ None → ElementsGiven (changed m.table c)
given-changed m (call.Load n g) s old r = given-push m.table n (given_submission g) outcome.Done s.lengths.submissions s.lengths.outcomes old (λ e. (refl, refl))
given-changed m (call.Element n g) s old r = given-push m.table n (given_submission g) outcome.Done s.lengths.submissions s.lengths.outcomes old (λ e. (refl, refl))
given-changed m (call.Run n o) s old r =
    let x = first_none (name_taken m.table n) _ r in
    let y = first_none (no_room m.table) _ x.1 in
    let z = first_none (first_of (map (wanted_case m.table) (inputs_wanted o))) _ y.1 in
    given-push m.table n (run_submission m.table o) outcome.Pending s.lengths.submissions s.lengths.outcomes old (λ e. let f = result_no_element m.table o z.0 in absurd cc)
given-changed m (call.Cancel n) s old r =
    let known = is_known (ticket_of m.table.names n) (λ t. cancel_case (outcome_at m.table.outcomes t)) r in
    let t = known.0 in
    let P : ℕ → Type 0 = λ u. ElementsGiven (killed m.table u outcome.Cancelled) in
    subst P (sym (ticket_is m.table n t known.1)) (given-killed m t outcome.Cancelled s (omega (arith, ticket_within m.table n t known.1, s.lengths.outcomes)) refl old)
given-changed m (call.Status n) s old r = old
given-changed m (call.Fetch n) s old r = old
given-changed m (call.Release n) s old r =
    given-outcomes m.table (set m.table.outcomes (ticket m.table n) outcome.Released) (set-settled m.table.outcomes (ticket m.table n) outcome.Released refl) old

given-step : (m : Machine) (i : LogItem) (n : Machine) → IsSound m → Step m i n → ElementsGiven m.table → ElementsGiven n.table
given-step m (item.Call c r) n s step old =
    let P : Machine → Type 0 = λ k. ElementsGiven k.table in
    subst P (sym step.3) (given-unless (refusal m.table m.payloads c) m.table (changed m.table c) old (given-changed m c s old))
given-step m (item.Finished t) n s step old =
    let P : Machine → Type 0 = λ k. ElementsGiven k.table in
    subst P (sym step.1) (given-outcomes m.table (set m.table.outcomes t outcome.Done) (set-settled m.table.outcomes t outcome.Done refl) old)
given-step m (item.Killed t) n s step old =
    let P : Machine → Type 0 = λ k. ElementsGiven k.table in
    subst P (sym step.1) (given-killed m t outcome.Memory s step.0.within refl old)

given-run : (log : List LogItem) (m n : Machine) → IsSound m → ElementsGiven m.table → Run m log n → ElementsGiven n.table
given-run [] m n s old r = let P : Machine → Type 0 = λ k. ElementsGiven k.table in subst P (sym r) old
given-run (i ∷ log) m n s old r = given-run log r.0 n (step_sound m i r.0 s r.1) (given-step m i r.0 s r.1 old) r.2

-- in each state that a run reaches
pub elements-given : (log : List LogItem) (m : Machine) → Run start_state log m → ElementsGiven m.table
elements-given log m r = given-run log start_state m start_sound (λ t l h. absurd (omega arith)) r
