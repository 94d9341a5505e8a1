-- Each command is settled by one item of the log.
use Rattle.std.proofs.Common.{◌≡◌, ◌≢◌, ℕ, zero, suc, ◌<◌, true, ◌⊎◌, inl, inr, List, [], ◌∷◌, length, Contains, Option, Some, None, sym, ap, ◌∙◌, subst, arith, length-append}
use Rattle.std.specs.List.{AllByRecursion}
use Rattle.std.specs.Option.{option_map_or}
use Rattle.std.proofs.lemmas.List.{get_or-set_same, get_or-set_other}
use Rattle.std.proofs.lemmas.Bool.{cases_eq, cases_Bool, both_ways}
use Rattle.mw_model.specs.declared.names.Name.{Name}
use Rattle.mw_model.specs.declared.operations.Op.{Op}
use Rattle.mw_model.specs.declared.submissions.Submission.{Submission}
use Rattle.mw_model.specs.declared.submissions.Command.TheVariants as command
use Rattle.mw_model.specs.declared.calls.Outcome.{Outcome}
use Rattle.mw_model.specs.declared.calls.Outcome.TheVariants as outcome
use Rattle.mw_model.specs.declared.calls.LogItem.{LogItem}
use Rattle.mw_model.specs.declared.calls.LogItem.TheVariants as item
use Rattle.mw_model.specs.Values.{Value}
use Rattle.mw_model.specs.Refusals.{Table, no_submission, outcome_at, submission_at, is_pending, is_dead, is_there}
use Rattle.mw_model.specs.Machine.{Machine, start_state, with_table, killed, settled, CanDie, Step, Run}
use Rattle.mw_model_laws.specs.MachineLaws.{IsSound, IsKilled, SettlesNot, first_dead}
use Rattle.mw_model_laws.proofs.RunCascade.{is_killed, failed_or_waits, dead_not_pending, pending_is}
use Rattle.mw_model.proofs.mw_facts.Elements.{get_or-push_below, get_or-push_last}
use Rattle.mw_model.proofs.mw_facts.Finds.{contains-cons}
use Rattle.mw_model.proofs.mw_facts.Numbers.{below_or_last}
use Rattle.mw_model_laws.proofs.RunSteps.{pushed, IsNew, holds_after}
use Rattle.mw_model_laws.proofs.RunStates.{start_sound, step_sound, there_not_dead}
use Rattle.mw_model_laws.proofs.RunGrowth.{step_grows, done_stays, length_goes_on}

-- ---- what is settled is not settled again

not_pending_stays : (old new : Outcome) → old ≢ outcome.Pending → (new ≡ old) ⊎ ((old ≡ outcome.Pending) ⊎ ((old ≡ outcome.Done) × (new ≡ outcome.Released))) → new ≢ outcome.Pending
not_pending_stays old new n f e = elim f [
  | inl same ↦ n (sym same ∙ e)
  | inr g ↦ elim g [ inl p ↦ n p | inr d ↦ let x = sym d.1 ∙ e in absurd cc ]
]

step_settles_not : (m : Machine) (i : LogItem) (n : Machine) (t : ℕ) → outcome_at m.table.outcomes t ≢ outcome.Pending → Step m i n → SettlesNot t i
step_settles_not m (item.Call c r) n t h s = (λ e. cc, λ e. cc)
step_settles_not m (item.Finished u) n t h s = (λ e. let same : u ≡ t = cc in h (sym (ap (outcome_at m.table.outcomes) same) ∙ s.0.pending), λ e. cc)
step_settles_not m (item.Killed u) n t h s = (λ e. cc, λ e. let same : u ≡ t = cc in h (sym (ap (outcome_at m.table.outcomes) same) ∙ s.0.pending))

-- no item of a run settles what was settled before
pub settled_once : (log : List LogItem) (m n : Machine) (t : ℕ) → IsSound m → t < length m.table.names → outcome_at m.table.outcomes t ≢ outcome.Pending → Run m log n → AllByRecursion (SettlesNot t) log
settled_once [] m n t s l h r = tt
settled_once (i ∷ log) m n t s l h r =
    let g = step_grows m i r.0 s r.1 in (
      step_settles_not m i r.0 t h r.1,
      settled_once log r.0 n t (step_sound m i r.0 s r.1) (length_goes_on m.table.names r.0.table.names t g.names l)
          (not_pending_stays (outcome_at m.table.outcomes t) (outcome_at r.0.table.outcomes t) h (g.outcomes t l)) r.2,
    )

-- ---- what is done was finished

-- the command of a ticket is done, or released since
record IsDoneRun (m : Machine) (t : ℕ) (o : Op) : Type 0 where
  within : t < length m.table.names
  command : (submission_at m.table.submissions t).command ≡ command.Run o
  there : is_there (outcome_at m.table.outcomes t) ≡ true

abbrev Before : Machine → LogItem → ℕ → Op → Machine → Type 0
Before m i t o n = IsDoneRun n t o → IsDoneRun m t o ⊎ (i ≡ item.Finished t)

added_before : (m : Machine) (i : LogItem) (t : ℕ) (x : Op) (n : Name) (e : Submission) (o : Outcome) (p : Option Value) → IsSound m → IsNew m n e o p → Before m i t x (pushed m n e o p)
added_before m i t x n e o p s new d =
    let N = length m.table.names in
    let subs : length m.table.submissions ≡ N = s.lengths.submissions in
    let outs : length m.table.outcomes ≡ N = s.lengths.outcomes in
    elim (below_or_last N t (omega (arith, d.within, length-append m.table.names (n ∷ [])))) [
      | inl l ↦ inl (record {
        within = l;
        command = ap (λ y. y.command) (sym (get_or-push_below m.table.submissions e no_submission t (omega arith))) ∙ d.command;
        there = ap is_there (sym (get_or-push_below m.table.outcomes o outcome.Pending t (omega arith))) ∙ d.there;
      })
      | inr l ↦ absurd (new.waits x (ap (λ y. y.command) (sym (get_or-push_last m.table.submissions e no_submission t (omega arith))) ∙ d.command)
          (ap is_there (sym (get_or-push_last m.table.outcomes o outcome.Pending t (omega arith))) ∙ d.there))
    ]

waits_not_there : (f : Option ℕ) → is_there (option_map_or outcome.Input f outcome.Pending) ≡ true → ⊥
waits_not_there None h = cc
waits_not_there (Some s) h = cc

-- a kill makes nothing done
killed_there : (w v : Table) (t : ℕ) (cause : Outcome) (u : ℕ) → IsKilled w v t cause → is_dead cause ≡ true → u < length w.outcomes → is_there (outcome_at v.outcomes u) ≡ true → is_there (outcome_at w.outcomes u) ≡ true
killed_there w v t cause u k dead h there = elim (cases_eq u t) [
  | inl e ↦ absurd (there_not_dead cause (ap is_there (sym k.dies ∙ ap (outcome_at v.outcomes) (sym e)) ∙ there) dead)
  | inr n ↦ elim (cases_Bool (is_pending (outcome_at w.outcomes u))) [
    | inl e ↦
        let fate = failed_or_waits w v t cause u k h n (pending_is (outcome_at w.outcomes u) e) in
        absurd (waits_not_there (first_dead v u) (ap is_there (sym fate) ∙ there))
    | inr e ↦ ap is_there (sym (k.settled u n (λ g. both_ways (is_pending (outcome_at w.outcomes u)) e (ap is_pending g)))) ∙ there
  ]
]

killed_before : (m : Machine) (i : LogItem) (t : ℕ) (x : Op) (u : ℕ) (cause : Outcome) → IsSound m → CanDie m.table u → is_dead cause ≡ true → Before m i t x (with_table m (killed m.table u cause))
unfolding killed
killed_before m i t x u cause s can dead d =
    let w = m.table in
    let outs : length w.outcomes ≡ length w.names = s.lengths.outcomes in
    let k : IsKilled w (killed w u cause) u cause = is_killed w u cause (omega (arith, s.lengths.submissions)) (λ y h. s.inputs y (omega arith)) can.within (dead_not_pending cause dead) in
    inl (record { within = d.within; command = d.command; there = killed_there w (killed w u cause) u cause t k dead (omega (arith, d.within)) d.there })

finished_before : (m : Machine) (i : LogItem) (t : ℕ) (x : Op) (u : ℕ) → i ≡ item.Finished u → Before m i t x (with_table m (settled m.table u outcome.Done))
finished_before m i t x u is d = elim (cases_eq t u) [
  | inl e ↦ inr (is ∙ ap item.Finished (sym e))
  | inr n ↦ inl (record { within = d.within; command = d.command; there = ap is_there (sym (get_or-set_other m.table.outcomes u t outcome.Done outcome.Pending n)) ∙ d.there })
]

released_before : (m : Machine) (i : LogItem) (t : ℕ) (x : Op) (u : ℕ) → outcome_at m.table.outcomes u ≡ outcome.Done → Before m i t x (with_table m (settled m.table u outcome.Released))
released_before m i t x u was d = elim (cases_eq t u) [
  | inl e ↦ inl (record { within = d.within; command = d.command; there = ap is_there (ap (outcome_at m.table.outcomes) e ∙ was) })
  | inr n ↦ inl (record { within = d.within; command = d.command; there = ap is_there (sym (get_or-set_other m.table.outcomes u t outcome.Released outcome.Pending n)) ∙ d.there })
]

step_before : (m : Machine) (i : LogItem) (n : Machine) (t : ℕ) (x : Op) → IsSound m → Step m i n → Before m i t x n
step_before m i n t x s step =
    let P : Machine → Type 0 = λ y. Before m i t x y in
    holds_after P m i n s.lengths step (record {
      same = λ d. inl d;
      added = λ n e o p new. added_before m i t x n e o p s new;
      dies = λ u cause can dead unfailed. killed_before m i t x u cause s can dead;
      done = λ u is can. finished_before m i t x u is;
      let_go = λ u within was. released_before m i t x u was;
    })

run_before : (log : List LogItem) (m n : Machine) (t : ℕ) (x : Op) → IsSound m → Run m log n → IsDoneRun n t x → IsDoneRun m t x ⊎ Contains log (item.Finished t)
run_before [] m n t x s r d = let P : Machine → Type 0 = λ y. IsDoneRun y t x in inl (subst P r d)
run_before (i ∷ log) m n t x s r d = elim (run_before log r.0 n t x (step_sound m i r.0 s r.1) r.2 d) [
  | inl d' ↦ elim (step_before m i r.0 t x s r.1 d') [ inl d'' ↦ inl d'' | inr e ↦ inr ((0, omega arith, e)) ]
  | inr c ↦ inr (contains-cons i (item.Finished t) log c)
]

-- a command that is done, or released since, was finished
pub done_was_finished : (log : List LogItem) (m : Machine) (t : ℕ) (x : Op) → Run start_state log m → t < length m.table.names
    → (submission_at m.table.submissions t).command ≡ command.Run x → is_there (outcome_at m.table.outcomes t) ≡ true → Contains log (item.Finished t)
done_was_finished log m t x r within command there =
    elim (run_before log start_state m t x start_sound r (record { within = within; command = command; there = there })) [
      | inl d ↦ let h = d.within in absurd (omega arith)
      | inr c ↦ c
    ]

-- what was finished is done, or released since
pub finished_is_done : (log : List LogItem) (m n : Machine) (t : ℕ) → IsSound m → Run m log n → Contains log (item.Finished t) → (outcome_at n.table.outcomes t ≡ outcome.Done) ⊎ (outcome_at n.table.outcomes t ≡ outcome.Released)
finished_is_done [] m n t s r c = absurd (omega (arith, c.1))
finished_is_done (i ∷ log) m n t s r (zero, l, e) =
    let P : LogItem → Type 0 = λ j. Step m j r.0 in
    let step : Step m (item.Finished t) r.0 = subst P e r.1 in
    let done : outcome_at r.0.table.outcomes t ≡ outcome.Done = ap (λ y. outcome_at y.table.outcomes t) step.1 ∙ get_or-set_same m.table.outcomes t outcome.Done outcome.Pending step.0.within in
    let g = step_grows m i r.0 s r.1 in
    done_stays log r.0 n t (step_sound m i r.0 s r.1) r.2 (length_goes_on m.table.names r.0.table.names t g.names (omega (arith, step.0.within, s.lengths.outcomes))) done
finished_is_done (i ∷ log) m n t s r (suc k, l, e) = finished_is_done log r.0 n t (step_sound m i r.0 s r.1) r.2 (k, omega arith, e)
