-- What a step and a run may change.
use Rattle.std.proofs.Common.{◌≡◌, ◌≢◌, ℕ, ◌<◌, true, ◌⊎◌, inl, inr, List, [], ◌∷◌, ◌++◌, length, set, Option, None, refl, sym, ap, ◌∙◌, subst, arith, length-append, append_assoc}
use Rattle.std.proofs.lemmas.List.{append-nil, get_or_append_left, get_or-set_same, get_or-set_other}
use Rattle.std.proofs.lemmas.Bool.{cases_eq, cases_Bool, both_ways}
use Rattle.mw_model.specs.declared.names.Name.{Name}
use Rattle.mw_model.specs.declared.submissions.Submission.{Submission}
use Rattle.mw_model.specs.declared.calls.Outcome.{Outcome}
use Rattle.mw_model.specs.declared.calls.Outcome.TheVariants as outcome
use Rattle.mw_model.specs.declared.calls.LogItem.{LogItem}
use Rattle.mw_model.specs.Values.{Value, tickets, value_at, value_of, values_after}
use Rattle.mw_model.specs.Refusals.{outcome_at, is_pending, is_dead}
use Rattle.mw_model.specs.Machine.{Machine, values, with_table, killed, settled, CanDie, Step, Run}
use Rattle.mw_model_laws.specs.MachineLaws.{GoesOn, MayBecome, GrowsTo, IsSound, IsKilled}
use Rattle.mw_model_laws.proofs.RunCascade.{is_killed, pending_is, dead_not_pending}
use Rattle.mw_model_laws.proofs.RunValues.{values_push, length_values}
use Rattle.mw_model.proofs.mw_facts.Elements.{get_or-push_below}
use Rattle.mw_model_laws.proofs.RunSteps.{pushed, holds_after}
use Rattle.mw_model_laws.proofs.RunStates.{step_sound}

-- ---- lists that go on

GoesOn-same : {X : Type 0} → (xs : List X) → GoesOn xs xs
GoesOn-same xs = ([], sym (append-nil xs))

GoesOn-joined : {X : Type 0} → (xs ys zs : List X) → GoesOn xs ys → GoesOn ys zs → GoesOn xs zs
GoesOn-joined xs ys zs f g = (f.0 ++ g.0, g.1 ∙ ap (λ l. l ++ g.0) f.1 ∙ append_assoc xs f.0 g.0)

pub length_goes_on : {X : Type 0} → (xs ys : List X) (n : ℕ) → GoesOn xs ys → n < length xs → n < length ys
length_goes_on xs ys n g h = omega (arith, ap length g.1, length-append xs g.0)

-- ---- outcomes

may_go_on : (a b c : Outcome) → MayBecome a b → MayBecome b c → MayBecome a c
may_go_on a b c f g = elim f [
  | inl same ↦ let P : Outcome → Type 0 = λ x. MayBecome x c in subst P same g
  | inr f' ↦ elim f' [
    | inl pending ↦ inr (inl pending)
    | inr done ↦ elim g [
      | inl same ↦ inr (inr (done.0, same ∙ done.1))
      | inr g' ↦ elim g' [ inl e ↦ let x = sym done.1 ∙ e in cc | inr e ↦ inr (inr (done.0, e.1)) ]
    ]
  ]
]

grows_same : (m : Machine) → GrowsTo m m
grows_same m = record {
  names = GoesOn-same m.table.names;
  submissions = GoesOn-same m.table.submissions;
  payloads = GoesOn-same m.payloads;
  values = GoesOn-same (values m);
  outcomes = λ t h. inl refl;
}

grows_on : (a b c : Machine) → GrowsTo a b → GrowsTo b c → GrowsTo a c
grows_on a b c f g = record {
  names = GoesOn-joined a.table.names b.table.names c.table.names f.names g.names;
  submissions = GoesOn-joined a.table.submissions b.table.submissions c.table.submissions f.submissions g.submissions;
  payloads = GoesOn-joined a.payloads b.payloads c.payloads f.payloads g.payloads;
  values = GoesOn-joined (values a) (values b) (values c) f.values g.values;
  outcomes = λ t h.
      may_go_on (outcome_at a.table.outcomes t) (outcome_at b.table.outcomes t) (outcome_at c.table.outcomes t) (f.outcomes t h)
      (g.outcomes t (length_goes_on a.table.names b.table.names t f.names h));
}

-- ---- each kind of change

pub grows_added : (m : Machine) (n : Name) (e : Submission) (o : Outcome) (p : Option Value) → IsSound m → GrowsTo m (pushed m n e o p)
grows_added m n e o p s = record {
  names = (n ∷ [], refl);
  submissions = (e ∷ [], refl);
  payloads = (p ∷ [], refl);
  values = (value_of (values m) (tickets e.inputs) e.command p ∷ [], values_push [] m.table.submissions m.payloads e p (omega (arith, s.lengths.submissions, s.lengths.payloads)));
  outcomes = λ t h. inl (get_or-push_below m.table.outcomes o outcome.Pending t (omega (arith, s.lengths.outcomes)));
}

grows_killed : (m : Machine) (t : ℕ) (cause : Outcome) → IsSound m → CanDie m.table t → is_dead cause ≡ true → GrowsTo m (with_table m (killed m.table t cause))
unfolding killed
grows_killed m t cause s can dead =
    let w = m.table in
    let outs : length w.outcomes ≡ length w.names = s.lengths.outcomes in
    let same : length w.submissions ≡ length w.outcomes = omega (arith, s.lengths.submissions) in
    let k : IsKilled w (killed w t cause) t cause = is_killed w t cause same (λ u h. s.inputs u (omega arith)) can.within (dead_not_pending cause dead) in
    record {
      names = GoesOn-same w.names;
      submissions = GoesOn-same w.submissions;
      payloads = GoesOn-same m.payloads;
      values = GoesOn-same (values m);
      outcomes = λ u h. elim (cases_eq u t) [
        | inl e ↦ inr (inl (ap (outcome_at w.outcomes) e ∙ can.pending))
        | inr n ↦ elim (cases_Bool (is_pending (outcome_at w.outcomes u))) [
          | inl e ↦ inr (inl (pending_is (outcome_at w.outcomes u) e))
          | inr e ↦ inl (k.settled u n (λ g. both_ways (is_pending (outcome_at w.outcomes u)) e (ap is_pending g)))
        ]
      ];
    }

grows_settled : (m : Machine) (t : ℕ) (o : Outcome) → t < length m.table.outcomes → MayBecome (outcome_at m.table.outcomes t) o → GrowsTo m (with_table m (settled m.table t o))
grows_settled m t o within may =
    let os = m.table.outcomes in
    let P : Outcome → Type 0 = λ x. MayBecome (outcome_at os t) x in
    let Q : ℕ → Type 0 = λ u. MayBecome (outcome_at os u) (outcome_at (set os t o) u) in
    record {
      names = GoesOn-same m.table.names;
      submissions = GoesOn-same m.table.submissions;
      payloads = GoesOn-same m.payloads;
      values = GoesOn-same (values m);
      outcomes = λ u h. elim (cases_eq u t) [
        | inl e ↦ subst Q (sym e) (subst P (sym (get_or-set_same os t o outcome.Pending within)) may)
        | inr n ↦ inl (get_or-set_other os t u o outcome.Pending n)
      ];
    }

-- ---- steps and runs

pub step_grows : (m : Machine) (i : LogItem) (n : Machine) → IsSound m → Step m i n → GrowsTo m n
step_grows m i n s step =
    let P : Machine → Type 0 = λ x. GrowsTo m x in
    holds_after P m i n s.lengths step (record {
      same = grows_same m;
      added = λ n e o p new. grows_added m n e o p s;
      dies = λ t cause can dead unfailed. grows_killed m t cause s can dead;
      done = λ t is can. grows_settled m t outcome.Done can.within (inr (inl can.pending));
      let_go = λ t within is. grows_settled m t outcome.Released within (inr (inr (is, refl)));
    })

pub run_grows : (log : List LogItem) (m n : Machine) → IsSound m → Run m log n → GrowsTo m n
run_grows [] m n s r = let P : Machine → Type 0 = λ x. GrowsTo m x in subst P (sym r) (grows_same m)
run_grows (i ∷ log) m n s r = grows_on m r.0 n (step_grows m i r.0 s r.1) (run_grows log r.0 n (step_sound m i r.0 s r.1) r.2)

-- ---- what follows for one entry

pub settled_stays : (log : List LogItem) (m n : Machine) (t : ℕ) → IsSound m → Run m log n → t < length m.table.names
    → outcome_at m.table.outcomes t ≢ outcome.Pending → outcome_at m.table.outcomes t ≢ outcome.Done → outcome_at n.table.outcomes t ≡ outcome_at m.table.outcomes t
settled_stays log m n t s r h a b = elim ((run_grows log m n s r).outcomes t h) [ inl e ↦ e | inr f ↦ elim f [ inl e ↦ absurd (a e) | inr e ↦ absurd (b e.0) ] ]

pub done_stays : (log : List LogItem) (m n : Machine) (t : ℕ) → IsSound m → Run m log n → t < length m.table.names
    → outcome_at m.table.outcomes t ≡ outcome.Done → (outcome_at n.table.outcomes t ≡ outcome.Done) ⊎ (outcome_at n.table.outcomes t ≡ outcome.Released)
done_stays log m n t s r h a = elim ((run_grows log m n s r).outcomes t h) [ inl e ↦ inl (e ∙ a) | inr f ↦ elim f [ inl e ↦ let x = sym a ∙ e in cc | inr e ↦ inr e.1 ] ]

pub value_stays : (log : List LogItem) (m n : Machine) (t : ℕ) → IsSound m → Run m log n → t < length m.table.names → value_at (values n) t ≡ value_at (values m) t
value_stays log m n t s r h =
    let g = (run_grows log m n s r).values in
    ap (λ vs. value_at vs t) g.1
    ∙ get_or_append_left (values m) g.0 None t
    (omega (arith, s.lengths.submissions, s.lengths.payloads, length_values [] m.table.submissions m.payloads (omega (arith, s.lengths.submissions, s.lengths.payloads))))

-- ---- values and outcomes

pub values_by : (a b : Machine) → a.table.submissions ≡ b.table.submissions → a.payloads ≡ b.payloads → values a ≡ values b
values_by a b e f = ap (λ es. values_after [] es a.payloads) e ∙ ap (λ ps. values_after [] b.table.submissions ps) f

pub values_killed : (m : Machine) (t : ℕ) (cause : Outcome) → values (with_table m (killed m.table t cause)) ≡ values m
unfolding killed
values_killed m t cause = refl
