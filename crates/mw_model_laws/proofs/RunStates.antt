-- What holds of each state that a run reaches.
use Rattle.std.proofs.Common.{◌≡◌, ◌≢◌, ℕ, ◌+◌, ◌<◌, Bool, true, false, inl, inr, List, [], ◌∷◌, ◌++◌, length, set, Contains, Option, Some, None, refl, sym, ap, ◌∙◌, subst, arith, length-append}
use Rattle.std.specs.Prelude.{option_map}
use Rattle.std.specs.List.{AllByRecursion}
use Rattle.std.proofs.lemmas.List.{get_or-set_same, get_or-set_other, length-set}
use Rattle.std.proofs.lemmas.Bool.{cases_eq, cases_Bool, both_ways}
use Rattle.mw_model.proofs.mw_facts.Alls.{all-weaker, all-both, all-contains}
use Rattle.mw_model.proofs.mw_facts.Elements.{get_or-push_below, get_or-push_last}
use Rattle.mw_model.proofs.mw_facts.Finds.{find-some, find-none, option_cases}
use Rattle.mw_model.proofs.mw_facts.Numbers.{below_or_last}
use Rattle.mw_model.specs.declared.names.Name.{Name}
use Rattle.mw_model.specs.declared.submissions.Submission.{Submission}
use Rattle.mw_model.specs.declared.calls.Outcome.{Outcome}
use Rattle.mw_model.specs.declared.calls.Outcome.TheVariants as outcome
use Rattle.mw_model.specs.declared.calls.LogItem.{LogItem}
use Rattle.mw_model.specs.Values.{Value, tickets, value_at, value_of}
use Rattle.mw_model.specs.Refusals.{no_submission, outcome_at, is_pending, is_dead, is_there, is_element}
use Rattle.mw_model.specs.Machine.{Machine, start_state, values, with_table, killed, settled, CanDie, Step, Run}
use Rattle.mw_model_laws.specs.MachineLaws.{inputs_at, shape_of_value, NoneAwaitsDead, DoneFromDone, FailedByDead, GivenAreThere, WithinLimits, IsSound, first_dead, IsKilled}
use Rattle.mw_model_laws.proofs.RunCascade.{is_killed, length_killed, pending_is, dead_not_pending}
use Rattle.mw_model_laws.proofs.RunValues.{values_push, length_values}
use Rattle.mw_model_laws.proofs.RunTables.{names_push}
use Rattle.mw_model_laws.proofs.RunSteps.{pushed, IsNew, holds_after}

-- ---- a new entry

-- what holds of an entry among those that were there, or of the new one
pushed_inputs : (es : List Submission) (e : Submission) (t : ℕ) → t < length es → inputs_at (es ++ e ∷ []) t ≡ inputs_at es t
pushed_inputs es e t h = ap (λ x. tickets x.inputs) (get_or-push_below es e no_submission t h)

last_inputs : (es : List Submission) (e : Submission) (t : ℕ) → t ≡ length es → inputs_at (es ++ e ∷ []) t ≡ tickets e.inputs
last_inputs es e t h = ap (λ x. tickets x.inputs) (get_or-push_last es e no_submission t h)

-- a fact about the outcomes of the inputs, where one entry is new
pushed_facts : (m : Machine) (n : Name) (e : Submission) (o : Outcome) (fact : Outcome → Bool) (b : Bool) → IsSound m → (premise : Outcome → Type 0)
    → ((t : ℕ) → t < length m.table.names → premise (outcome_at m.table.outcomes t) → AllByRecursion (λ i. fact (outcome_at m.table.outcomes i) ≡ b) (inputs_at m.table.submissions t))
    → AllByRecursion (λ i. i < length m.table.names) (tickets e.inputs)
    → (premise o → AllByRecursion (λ i. fact (outcome_at m.table.outcomes i) ≡ b) (tickets e.inputs))
    → (t : ℕ) → t < length (m.table.names ++ n ∷ []) → premise (outcome_at (m.table.outcomes ++ o ∷ []) t)
    → AllByRecursion (λ i. fact (outcome_at (m.table.outcomes ++ o ∷ []) i) ≡ b) (inputs_at (m.table.submissions ++ e ∷ []) t)
pushed_facts m n e o fact b s premise old below new t within h =
    let N = length m.table.names in
    let es = m.table.submissions in
    let os = m.table.outcomes in
    let subs : length es ≡ N = s.lengths.submissions in
    let outs : length os ≡ N = s.lengths.outcomes in
    let F : ℕ → Type 0 = λ i. fact (outcome_at os i) ≡ b in
    let G : ℕ → Type 0 = λ i. fact (outcome_at (os ++ o ∷ []) i) ≡ b in
    let move : (i : ℕ) → i < N → F i → G i = λ i l f. ap fact (get_or-push_below os o outcome.Pending i (omega arith)) ∙ f in
    let A : List ℕ → Type 0 = λ xs. AllByRecursion G xs in
    elim (below_or_last N t (omega (arith, length-append m.table.names (n ∷ [])))) [
      | inl l ↦
          let was : premise (outcome_at os t) = subst premise (get_or-push_below os o outcome.Pending t (omega arith)) h in
          let before : AllByRecursion (λ i. i < N) (inputs_at es t) = all-weaker (λ i. i < t) (λ i. i < N) (inputs_at es t) (λ i k. omega arith) (s.inputs t l) in
          subst A (sym (pushed_inputs es e t (omega arith))) (all-both (λ i. i < N) F G (inputs_at es t) move before (old t l was))
      | inr l ↦
          let is : premise o = subst premise (get_or-push_last os o outcome.Pending t (omega arith)) h in
          subst A (sym (last_inputs es e t (omega arith))) (all-both (λ i. i < N) F G (tickets e.inputs) move below (new is))
    ]

sound_added : (m : Machine) (n : Name) (e : Submission) (o : Outcome) (p : Option Value) → IsSound m → IsNew m n e o p → IsSound (pushed m n e o p)
sound_added m n e o p s new =
    let N = length m.table.names in
    let es = m.table.submissions in
    let os = m.table.outcomes in
    let subs : length es ≡ N = s.lengths.submissions in
    let outs : length os ≡ N = s.lengths.outcomes in
    let pays : length m.payloads ≡ N = s.lengths.payloads in
    let one : length (m.table.names ++ n ∷ []) ≡ N + 1 = length-append m.table.names (n ∷ []) in
    let v = value_of (values m) (tickets e.inputs) e.command p in
    let more : values (pushed m n e o p) ≡ values m ++ v ∷ [] = values_push [] es m.payloads e p (omega arith) in
    let many : length (values m) ≡ N = omega (arith, length_values [] es m.payloads (omega arith)) in
    let room : N < 65536 = new.room in
    record {
      lengths = record {
        submissions = omega (arith, length-append es (e ∷ []));
        outcomes = omega (arith, length-append os (o ∷ []));
        payloads = omega (arith, length-append m.payloads (p ∷ []));
      };
      small = omega arith;
      names = names_push m.table.names n s.names new.fresh;
      inputs = λ t h.
          let A : List ℕ → Type 0 = λ xs. AllByRecursion (λ i. i < t) xs in
          elim (below_or_last N t (omega arith)) [
            | inl l ↦ subst A (sym (pushed_inputs es e t (omega arith))) (s.inputs t l)
            | inr l ↦ subst A (sym (last_inputs es e t (omega arith))) (all-weaker (λ i. i < N) (λ i. i < t) (tickets e.inputs) (λ i k. omega arith) new.below)
          ];
      pending = pushed_facts m n e o is_dead false s (λ x. x ≡ outcome.Pending) s.pending new.below (λ h. new.alive);
      done = pushed_facts m n e o is_there true s (λ x. is_there x ≡ true) s.done new.below new.there;
      failed = λ t x h f. elim (below_or_last N t (omega arith)) [
        | inl l ↦
            let was = s.failed t x l (sym (get_or-push_below os o outcome.Pending t (omega arith)) ∙ f) in
            let less : x < t = all-contains (λ i. i < t) (inputs_at es t) x (s.inputs t l) was.0 in
            let A : List ℕ → Type 0 = λ xs. Contains xs x in (
              subst A (sym (pushed_inputs es e t (omega arith))) was.0,
              ap is_dead (get_or-push_below os o outcome.Pending x (omega arith)) ∙ was.1,
            )
        | inr l ↦ absurd (new.unfailed x (sym (get_or-push_last os o outcome.Pending t (omega arith)) ∙ f))
      ];
      given = λ t h f. elim (below_or_last N t (omega arith)) [
        | inl l ↦ ap is_there (get_or-push_below os o outcome.Pending t (omega arith)) ∙ s.given t l (ap (λ x. x.command) (sym (get_or-push_below es e no_submission t (omega arith))) ∙ f)
        | inr l ↦ ap is_there (get_or-push_last os o outcome.Pending t (omega arith)) ∙ new.given (ap (λ x. x.command) (sym (get_or-push_last es e no_submission t (omega arith))) ∙ f)
      ];
      elements = λ t h f. elim (below_or_last N t (omega arith)) [
        | inl l ↦
            let same = get_or-push_below es e no_submission t (omega arith) in
            ap (λ x. x.command) same ∙ s.elements t l (ap (λ x. is_element x.shape) (sym same) ∙ f)
        | inr l ↦
            let same = get_or-push_last es e no_submission t (omega arith) in
            ap (λ x. x.command) same ∙ new.element (ap (λ x. is_element x.shape) (sym same) ∙ f)
      ];
      bare = λ t x h f. elim (below_or_last N t (omega arith)) [
        | inl l ↦ get_or-push_below m.payloads p None t (omega arith) ∙ s.bare t x l (ap (λ y. y.command) (sym (get_or-push_below es e no_submission t (omega arith))) ∙ f)
        | inr l ↦ get_or-push_last m.payloads p None t (omega arith) ∙ new.bare x (ap (λ y. y.command) (sym (get_or-push_last es e no_submission t (omega arith))) ∙ f)
      ];
      shapes = λ t h. elim (below_or_last N t (omega arith)) [
        | inl l ↦
            ap (λ vs. option_map shape_of_value (value_at vs t)) more ∙ ap (option_map shape_of_value) (get_or-push_below (values m) v None t (omega arith))
            ∙ s.shapes t l ∙ ap (λ x. Some x.shape) (sym (get_or-push_below es e no_submission t (omega arith)))
        | inr l ↦
            ap (λ vs. option_map shape_of_value (value_at vs t)) more ∙ ap (option_map shape_of_value) (get_or-push_last (values m) v None t (omega arith))
            ∙ new.shape s.shapes ∙ ap (λ x. Some x.shape) (sym (get_or-push_last es e no_submission t (omega arith)))
      ];
      limits = λ t h. elim (below_or_last N t (omega arith)) [
        | inl l ↦ subst WithinLimits (sym (ap (λ vs. value_at vs t) more ∙ get_or-push_below (values m) v None t (omega arith))) (s.limits t l)
        | inr l ↦ subst WithinLimits (sym (ap (λ vs. value_at vs t) more ∙ get_or-push_last (values m) v None t (omega arith))) (new.limits s.shapes s.limits)
      ];
    }

-- ---- a change of outcomes alone

-- the state with other outcomes
abbrev with_outcomes : Machine → List Outcome → Machine
with_outcomes m os = record { table = record { names = m.table.names; submissions = m.table.submissions; outcomes = os }; payloads = m.payloads }

sound_outcomes : (m : Machine) (os : List Outcome) → IsSound m → length os ≡ length m.table.outcomes
    → NoneAwaitsDead (record { names = m.table.names; submissions = m.table.submissions; outcomes = os })
    → DoneFromDone (record { names = m.table.names; submissions = m.table.submissions; outcomes = os })
    → FailedByDead (record { names = m.table.names; submissions = m.table.submissions; outcomes = os })
    → GivenAreThere (record { names = m.table.names; submissions = m.table.submissions; outcomes = os })
    → IsSound (with_outcomes m os)
sound_outcomes m os s len pending done failed given = record {
  lengths = record { submissions = s.lengths.submissions; outcomes = len ∙ s.lengths.outcomes; payloads = s.lengths.payloads };
  small = s.small;
  names = s.names;
  inputs = s.inputs;
  pending = pending;
  done = done;
  failed = failed;
  given = given;
  elements = s.elements;
  bare = s.bare;
  shapes = s.shapes;
  limits = s.limits;
}

-- the outcome of one entry is set, to one that is neither pending nor dead
sound_settled : (m : Machine) (t : ℕ) (o : Outcome) → IsSound m → t < length m.table.outcomes → is_pending o ≡ false → is_dead o ≡ false → is_there o ≡ true
    → is_dead (outcome_at m.table.outcomes t) ≡ false
    → AllByRecursion (λ i. is_there (outcome_at m.table.outcomes i) ≡ true) (inputs_at m.table.submissions t)
    → IsSound (with_table m (settled m.table t o))
sound_settled m t o s within not_pending not_dead there alive inputs =
    let os = m.table.outcomes in
    let ns = set os t o in
    let outs : length os ≡ length m.table.names = s.lengths.outcomes in
    let hit : outcome_at ns t ≡ o = get_or-set_same os t o outcome.Pending within in
    let other : (u : ℕ) → u ≢ t → outcome_at ns u ≡ outcome_at os u = λ u n. get_or-set_other os t u o outcome.Pending n in
    let stays : (fact : Outcome → Bool) (b : Bool) → fact o ≡ b → (i : ℕ) → fact (outcome_at os i) ≡ b → fact (outcome_at ns i) ≡ b
    = λ fact b h i f. elim (cases_eq i t) [ inl e ↦ ap (λ j. fact (outcome_at ns j)) e ∙ ap fact hit ∙ h | inr n ↦ ap fact (other i n) ∙ f ] in
    sound_outcomes m ns s (length-set os t o)
    (λ u l h. elim (cases_eq u t) [
      | inl e ↦ let f : is_pending o ≡ true = ap is_pending (sym hit ∙ ap (outcome_at ns) (sym e) ∙ h) in absurd cc
      | inr n ↦
          all-weaker (λ i. is_dead (outcome_at os i) ≡ false) (λ i. is_dead (outcome_at ns i) ≡ false) (inputs_at m.table.submissions u)
          (stays is_dead false not_dead) (s.pending u l (sym (other u n) ∙ h))
    ])
    (λ u l h. elim (cases_eq u t) [
      | inl e ↦
          let A : ℕ → Type 0 = λ k. AllByRecursion (λ i. is_there (outcome_at ns i) ≡ true) (inputs_at m.table.submissions k) in
          subst A (sym e) (all-weaker (λ i. is_there (outcome_at os i) ≡ true) (λ i. is_there (outcome_at ns i) ≡ true) (inputs_at m.table.submissions t) (stays is_there true there) inputs)
      | inr n ↦
          all-weaker (λ i. is_there (outcome_at os i) ≡ true) (λ i. is_there (outcome_at ns i) ≡ true) (inputs_at m.table.submissions u)
          (stays is_there true there) (s.done u l (ap is_there (sym (other u n)) ∙ h))
    ])
    (λ u x l h. elim (cases_eq u t) [
      | inl e ↦ let f : is_there o ≡ false = ap is_there (sym hit ∙ ap (outcome_at ns) (sym e) ∙ h) in absurd cc
      | inr n ↦
          let was = s.failed u x l (sym (other u n) ∙ h) in
          (was.0, ap is_dead (other x (λ e. both_ways (is_dead (outcome_at os t)) alive (ap (λ j. is_dead (outcome_at os j)) (sym e) ∙ was.1))) ∙ was.1)
    ])
    (λ u l h. stays is_there true there u (s.given u l h))

dead_settled : (o : Outcome) → is_dead o ≡ true → o ≢ outcome.Pending
dead_settled o h e = let f = ap is_dead e in absurd cc

-- an outcome that is there is not pending, and not dead
there_not_pending : (o : Outcome) → is_there o ≡ true → o ≢ outcome.Pending
there_not_pending o h e = let f = ap is_there e in absurd cc

pub there_not_dead : (o : Outcome) → is_there o ≡ true → is_dead o ≡ true → ⊥
there_not_dead outcome.Pending a b = cc
there_not_dead outcome.Done a b = cc
there_not_dead outcome.Cancelled a b = cc
there_not_dead outcome.Memory a b = cc
there_not_dead (outcome.Input s) a b = cc
there_not_dead outcome.Released a b = cc

-- ---- a kill

-- t dies, and what it was an input of fails
sound_killed : (m : Machine) (t : ℕ) (cause : Outcome) → IsSound m → CanDie m.table t → is_dead cause ≡ true → ((s : ℕ) → cause ≡ outcome.Input s → ⊥) → IsSound (with_table m (killed m.table t cause))
unfolding killed
sound_killed m t cause s can dead unfailed =
    let w = m.table in
    let os = w.outcomes in
    let ns = (killed w t cause).outcomes in
    let outs : length os ≡ length w.names = s.lengths.outcomes in
    let same : length w.submissions ≡ length os = omega (arith, s.lengths.submissions) in
    let k : IsKilled w (killed w t cause) t cause = is_killed w t cause same (λ u h. s.inputs u (omega arith)) can.within (dead_not_pending cause dead) in
    sound_outcomes m ns s (length_killed w t cause same)
    (λ u l h. elim (cases_eq u t) [
      | inl e ↦ let f : is_pending cause ≡ true = ap is_pending (sym k.dies ∙ ap (outcome_at ns) (sym e) ∙ h) in absurd (both_ways (is_pending cause) (dead_not_pending cause dead) f)
      | inr n ↦ elim (cases_Bool (is_pending (outcome_at os u))) [
        | inl e ↦ find-none (λ i. is_dead (outcome_at ns i)) (inputs_at w.submissions u) ((k.waits u (omega arith) n (pending_is (outcome_at os u) e)).0 h)
        | inr e ↦
            let f : outcome_at ns u ≡ outcome_at os u = k.settled u n (λ g. both_ways (is_pending (outcome_at os u)) e (ap is_pending g)) in
            absurd (both_ways (is_pending (outcome_at os u)) e (ap is_pending (sym f ∙ h)))
      ]
    ])
    (λ u l h. elim (cases_eq u t) [
      | inl e ↦ absurd (there_not_dead cause (ap is_there (sym k.dies ∙ ap (outcome_at ns) (sym e)) ∙ h) dead)
      | inr n ↦ elim (cases_Bool (is_pending (outcome_at os u))) [
        | inl e ↦ elim (option_cases (first_dead (killed w t cause) u)) [
          | inl f ↦ absurd (there_not_pending (outcome_at ns u) h ((k.waits u (omega arith) n (pending_is (outcome_at os u) e)).1 f))
          | inr f ↦ absurd (there_not_input f.0 (ap is_there (sym ((k.fails u f.0 (omega arith) n (pending_is (outcome_at os u) e)).1 f.1)) ∙ h))
        ]
        | inr e ↦
            let f : outcome_at ns u ≡ outcome_at os u = k.settled u n (λ g. both_ways (is_pending (outcome_at os u)) e (ap is_pending g)) in
            all-weaker (λ i. is_there (outcome_at os i) ≡ true) (λ i. is_there (outcome_at ns i) ≡ true) (inputs_at w.submissions u)
            (λ i was.
            let alive = there_not_pending (outcome_at os i) was in
            ap is_there (k.settled i (λ x. alive (ap (outcome_at os) x ∙ can.pending)) alive) ∙ was)
            (s.done u l (ap is_there (sym f) ∙ h))
      ]
    ])
    (λ u x l h. elim (cases_eq u t) [
      | inl e ↦ absurd (unfailed x (sym k.dies ∙ ap (outcome_at ns) (sym e) ∙ h))
      | inr n ↦ elim (cases_Bool (is_pending (outcome_at os u))) [
        | inl e ↦ find-some (λ i. is_dead (outcome_at ns i)) (inputs_at w.submissions u) x ((k.fails u x (omega arith) n (pending_is (outcome_at os u) e)).0 h)
        | inr e ↦
            let f : outcome_at ns u ≡ outcome_at os u = k.settled u n (λ g. both_ways (is_pending (outcome_at os u)) e (ap is_pending g)) in
            let was = s.failed u x l (sym f ∙ h) in
            let still : outcome_at os x ≢ outcome.Pending = dead_settled (outcome_at os x) was.1 in
            (was.0, ap is_dead (k.settled x (λ g. still (ap (outcome_at os) g ∙ can.pending)) still) ∙ was.1)
      ]
    ])
    (λ u l h.
    let was = s.given u l h in
    let alive = there_not_pending (outcome_at os u) was in
    ap is_there (k.settled u (λ x. alive (ap (outcome_at os) x ∙ can.pending)) alive) ∙ was)
  where
    there_not_input : (i : ℕ) → is_there (outcome.Input i) ≡ true → ⊥
    there_not_input i h = cc

-- ---- steps and runs

pub step_sound : (m : Machine) (i : LogItem) (n : Machine) → IsSound m → Step m i n → IsSound n
step_sound m i n s step =
    holds_after IsSound m i n s.lengths step (record {
      same = s;
      added = λ n e o p new. sound_added m n e o p s new;
      dies = λ t cause can dead unfailed. sound_killed m t cause s can dead unfailed;
      done = λ t is can. sound_settled m t outcome.Done s can.within refl refl refl (ap is_dead can.pending) can.inputs_there;
      let_go = λ t within is. sound_settled m t outcome.Released s within refl refl refl (ap is_dead is) (s.done t (omega (arith, s.lengths.outcomes)) (ap is_there is));
    })

pub start_sound : IsSound start_state
start_sound = record {
  lengths = record { submissions = refl; outcomes = refl; payloads = refl };
  small = omega arith;
  names = λ t h. absurd (omega arith);
  inputs = λ t h. absurd (omega arith);
  pending = λ t h. absurd (omega arith);
  done = λ t h. absurd (omega arith);
  failed = λ t s h. absurd (omega arith);
  given = λ t h. absurd (omega arith);
  elements = λ t h. absurd (omega arith);
  bare = λ t o h. absurd (omega arith);
  shapes = λ t h. absurd (omega arith);
  limits = λ t h. absurd (omega arith);
}

pub run_sound : (log : List LogItem) (m n : Machine) → IsSound m → Run m log n → IsSound n
run_sound [] m n s r = subst IsSound (sym r) s
run_sound (i ∷ log) m n s r = run_sound log r.0 n (step_sound m i r.0 s r.1) r.2

-- each state that a run reaches from the start
pub reached : (log : List LogItem) (m : Machine) → Run start_state log m → IsSound m
reached log m r = run_sound log start_state m start_sound r
