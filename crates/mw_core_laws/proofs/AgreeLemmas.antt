-- What is kept goes on agreeing with the machine.
use Rattle.std.proofs.Common.{◌≡◌, ◌≢◌, ℕ, ◌<◌, Bool, true, false, cond, not, ◌⊎◌, inl, inr, List, [], ◌∷◌, ◌++◌, length, get_or, set, nat_eq, Option, Some, None, IsSome, refl, sym, ap, ◌∙◌, subst, arith, length-append}
use Rattle.std.specs.Prelude.{◌&&◌}
use Rattle.std.specs.List.{AllByRecursion, list_any}
use Rattle.std.proofs.lemmas.List.{get_or-set_same, get_or-set_other, get_or_past}
use Rattle.std.proofs.lemmas.Bool.{cases_lt, cases_eq, cases_Bool, eqb-true}
use Rattle.mw_model.proofs.mw_facts.Elements.{get_or-push_below, get_or-push_last}
use Rattle.mw_model.proofs.mw_facts.Tests.{cond_none-some}
use Rattle.mw_model.specs.declared.names.Name.{Name}
use Rattle.mw_model.specs.declared.submissions.Submission.{Submission}
use Rattle.mw_model.specs.declared.calls.Outcome.{Outcome}
use Rattle.mw_model.specs.declared.calls.Outcome.TheVariants as outcome
use Rattle.mw_model.specs.Values.{Value, tickets, value_at, value_of}
use Rattle.mw_model.specs.Refusals.{Table, no_submission, outcome_at, is_pending, is_dead, is_released, is_there}
use Rattle.mw_model.specs.Machine.{Machine, values, with_entry, with_table, killed, settled}
use Rattle.mw_model.specs.Stands.{Agrees, is_wanted}
use Rattle.mw_store.specs.mw_model_laws.MachineLaws.{IsSound}
use Rattle.mw_store.proofs.mw_model_laws.RunValues.{values_push}
use Rattle.mw_store.proofs.mw_model_laws.RunSteps.{pushed}
use Rattle.mw_core_laws.proofs.Later.{length-values}
use Rattle.mw_store.proofs.CascadeLemmas.{Fate, fate-pending}
use Rattle.mw_store.specs.Stored.{is_spent, DropsSpent}
use Rattle.mw_core_laws.proofs.FateLemmas.{wanted-by, wanted-at, killed-fate, fate-there, there-stays}

-- ---- one entry more

where-is : (n t : ℕ) → (t < n) ⊎ ((t ≡ n) ⊎ (n < t))
where-is n t = elim (cases_lt t n) [ inl l ↦ inl l | inr g ↦ elim (cases_lt n t) [ inl m ↦ inr (inr m) | inr e ↦ inr (inl (omega arith)) ] ]

push-past : {X : Type 0} → (xs : List X) (x d : X) (t : ℕ) → length xs < t → get_or (xs ++ x ∷ []) t d ≡ d
push-past xs x d t h = get_or_past (xs ++ x ∷ []) t d (omega (arith, length-append xs (x ∷ [])))

-- the values after one entry more
pub values-pushed : (m : Machine) (n : Name) (e : Submission) (o : Outcome) (p : Option Value) → IsSound m
    → values (pushed m n e o p) ≡ values m ++ value_of (values m) (tickets e.inputs) e.command p ∷ []
values-pushed m n e o p s = values_push [] m.table.submissions m.payloads e p (s.lengths.payloads ∙ sym s.lengths.submissions)

not-all : (t : ℕ) (xs : List ℕ) (os : List Outcome) → AllByRecursion (λ i. is_released (outcome_at os i) ≡ false) xs → is_released (outcome_at os t) ≡ true → list_any (nat_eq t) xs ≡ false
not-all t [] os h r = refl
not-all t (x ∷ xs) os h r =
    elim (cases_Bool (nat_eq t x)) [
      | inl e ↦ let same : t ≡ x = eqb-true t x e in let f : is_released (outcome_at os x) ≡ true = rw (← same) r in absurd (let g = h.0 in cc)
      | inr e ↦ rw e (not-all t xs os h.1 r)
    ]

-- a released value that was wanted before is wanted by the same entry, and by no new one
wanted-push : (m : Machine) (n : Name) (e : Submission) (o : Outcome) (t : ℕ) → IsSound m → AllByRecursion (λ i. is_released (outcome_at m.table.outcomes i) ≡ false) (tickets e.inputs)
    → is_released (outcome_at m.table.outcomes t) ≡ true → is_wanted (with_entry m.table n e o) t ≡ true → is_wanted m.table t ≡ true
wanted-push m n e o t s held r h =
    let w = m.table in
    let v = with_entry w n e o in
    let by = wanted-by v t h in
    let u = by.0 in
    elim (where-is (length w.names) u) [
      | inl l ↦
          let stands = get_or-push_below w.outcomes o outcome.Pending u (omega (arith, s.lengths.outcomes)) in
          let entry = get_or-push_below w.submissions e no_submission u (omega (arith, s.lengths.submissions)) in
          wanted-at w t u (record {
            within = l;
            pending = ap is_pending (sym stands) ∙ by.1.pending;
            input = ap (λ (x : Submission). list_any (nat_eq t) (tickets x.inputs)) (sym entry) ∙ by.1.input;
          })
      | inr r' ↦ elim r' [
        | inl l ↦
            let entry = get_or-push_last w.submissions e no_submission u (omega (arith, s.lengths.submissions)) in
            let input : list_any (nat_eq t) (tickets e.inputs) ≡ true = ap (λ (x : Submission). list_any (nat_eq t) (tickets x.inputs)) (sym entry) ∙ by.1.input in
            let none = not-all t (tickets e.inputs) w.outcomes held r in
            absurd cc
        | inr g ↦ absurd (omega (arith, by.1.within, length-append w.names (n ∷ [])))
      ]
    ]

wanted-stays : (m : Machine) (n : Name) (e : Submission) (o : Outcome) (t : ℕ) → IsSound m → is_wanted m.table t ≡ true → is_wanted (with_entry m.table n e o) t ≡ true
wanted-stays m n e o t s h =
    let w = m.table in
    let by = wanted-by w t h in
    let u = by.0 in
    let stands = get_or-push_below w.outcomes o outcome.Pending u (omega (arith, by.1.within, s.lengths.outcomes)) in
    let entry = get_or-push_below w.submissions e no_submission u (omega (arith, by.1.within, s.lengths.submissions)) in
    wanted-at (with_entry w n e o) t u (record {
      within = omega (arith, by.1.within, length-append w.names (n ∷ []));
      pending = ap is_pending stands ∙ by.1.pending;
      input = ap (λ (x : Submission). list_any (nat_eq t) (tickets x.inputs)) entry ∙ by.1.input;
    })

-- an entry that is added: its payload is its value, and it is no pending one that waits for what is released
pub agrees-push : (kept : List (Option Value)) (m : Machine) (n : Name) (e : Submission) (o : Outcome) (p : Option Value) → IsSound m → length kept ≡ length m.table.names → Agrees kept m
    → AllByRecursion (λ i. is_released (outcome_at m.table.outcomes i) ≡ false) (tickets e.inputs)
    → ((v : Value) → p ≡ Some v → value_of (values m) (tickets e.inputs) e.command p ≡ Some v)
    → ((v : Value) → p ≡ Some v → is_there o ≡ true)
    → (o ≡ outcome.Done → IsSome p) → is_released o ≡ false
    → Agrees (kept ++ p ∷ []) (pushed m n e o p)
agrees-push kept m n e o p s long a held own there done fresh =
    let w = m.table in
    let N = length w.names in
    let os = w.outcomes in
    let own_value = value_of (values m) (tickets e.inputs) e.command p in
    let values_are = values-pushed m n e o p s in
    let values_count = length-values m s in
    let Kept : Option Value → Type 0 = IsSome in
    record {
      payloads = omega (arith, length-append m.payloads (p ∷ []), length-append w.names (n ∷ []), s.lengths.payloads);
      own = λ t v h. rw values_are (elim (where-is N t) [
        | inl l ↦ get_or-push_below (values m) own_value None t (omega arith) ∙ a.own t v (sym (get_or-push_below kept p None t (omega arith)) ∙ h)
        | inr r ↦ elim r [
          | inl q ↦ get_or-push_last (values m) own_value None t (omega arith) ∙ own v (sym (get_or-push_last kept p None t (omega arith)) ∙ h)
          | inr g ↦ let f = push-past kept p None t (omega arith) in absurd cc
        ]
      ]);
      there = λ t v h. elim (where-is N t) [
        | inl l ↦ ap is_there (get_or-push_below os o outcome.Pending t (omega (arith, s.lengths.outcomes))) ∙ a.there t v (sym (get_or-push_below kept p None t (omega arith)) ∙ h)
        | inr r ↦ elim r [
          | inl q ↦ ap is_there (get_or-push_last os o outcome.Pending t (omega (arith, s.lengths.outcomes))) ∙ there v (sym (get_or-push_last kept p None t (omega arith)) ∙ h)
          | inr g ↦ let f = push-past kept p None t (omega arith) in absurd cc
        ]
      ];
      done = λ t l h. elim (where-is N t) [
        | inl l' ↦ subst Kept (sym (get_or-push_below kept p None t (omega arith))) (a.done t l' (sym (get_or-push_below os o outcome.Pending t (omega (arith, s.lengths.outcomes))) ∙ h))
        | inr r ↦ elim r [
          | inl q ↦ subst Kept (sym (get_or-push_last kept p None t (omega arith))) (done (sym (get_or-push_last os o outcome.Pending t (omega (arith, s.lengths.outcomes))) ∙ h))
          | inr g ↦ absurd (omega (arith, length-append w.names (n ∷ [])))
        ]
      ];
      released = λ t l h. elim (where-is N t) [
        | inl l' ↦
            let was : outcome_at os t ≡ outcome.Released = sym (get_or-push_below os o outcome.Pending t (omega (arith, s.lengths.outcomes))) ∙ h in
            let same = get_or-push_below kept p None t (omega arith) in
            let iff = a.released t l' was in (
              λ k. wanted-stays m n e o t s (iff.0 (subst Kept same k)),
              λ k. subst Kept (sym same) (iff.1 (wanted-push m n e o t s held (ap is_released was) k)),
            )
        | inr r ↦ elim r [
          | inl q ↦ let f : is_released o ≡ true = ap is_released (sym (get_or-push_last os o outcome.Pending t (omega (arith, s.lengths.outcomes))) ∙ h) in absurd cc
          | inr g ↦ absurd (omega (arith, length-append w.names (n ∷ [])))
        ]
      ];
    }

-- ---- other outcomes

-- what holds of what is kept before the spent values are dropped
pub record AgreesBefore (kept : List (Option Value)) (m : Machine) : Type 0 where
  pub payloads : length m.payloads ≡ length m.table.names
  pub own : (t : ℕ) (v : Value) → value_at kept t ≡ Some v → value_at (values m) t ≡ Some v
  pub there : (t : ℕ) (v : Value) → value_at kept t ≡ Some v → is_there (outcome_at m.table.outcomes t) ≡ true
  pub done : (t : ℕ) → t < length m.table.names → outcome_at m.table.outcomes t ≡ outcome.Done → IsSome (value_at kept t)
  pub needed : (t : ℕ) → t < length m.table.names → outcome_at m.table.outcomes t ≡ outcome.Released → is_wanted m.table t ≡ true → IsSome (value_at kept t)

not-spent : (w : Table) (t : ℕ) → is_wanted w t ≡ true → is_spent w t ≡ false
not-spent w t h = go (is_released (outcome_at w.outcomes t)) (is_wanted w t) h
  where
    go : (a b : Bool) → b ≡ true → (a && not b) ≡ false
    go true b h = rw h refl
    go false b h = refl

pub agrees-dropped : (kept new : List (Option Value)) (m : Machine) → AgreesBefore kept m → DropsSpent m.table kept new → Agrees new m
agrees-dropped kept new m a drops =
    let Kept : Option Value → Type 0 = IsSome in
    let was : (t : ℕ) (v : Value) → value_at new t ≡ Some v → value_at kept t ≡ Some v
    = λ t v h. cond_none-some (is_spent m.table t) (value_at kept t) v (sym (drops t) ∙ h) in
    record {
      payloads = a.payloads;
      own = λ t v h. a.own t v (was t v h);
      there = λ t v h. a.there t v (was t v h);
      done = λ t l h.
          let unspent : is_spent m.table t ≡ false = rw h refl in
          let same : value_at new t ≡ value_at kept t = drops t ∙ ap (λ b. cond b None (value_at kept t)) unspent in
          subst Kept (sym same) (a.done t l h);
      released = λ t l h. (
        λ k. elim (cases_Bool (is_wanted m.table t)) [
          | inl wanted ↦ wanted
          | inr unwanted ↦
              let spent : is_spent m.table t ≡ true = rw (h, unwanted) refl in
              let gone : value_at new t ≡ None = drops t ∙ ap (λ b. cond b None (value_at kept t)) spent in
              let f = subst Kept gone k in absurd cc
        ],
        λ k.
            let same : value_at new t ≡ value_at kept t = drops t ∙ ap (λ b. cond b None (value_at kept t)) (not-spent m.table t k) in
            subst Kept (sym same) (a.needed t l h k),
      );
    }

-- a death makes nothing done, and what was there stays there
pub agrees-killed : (kept : List (Option Value)) (m : Machine) (t : ℕ) (cause : Outcome) → IsSound m → Agrees kept m → t < length m.table.outcomes
    → outcome_at m.table.outcomes t ≡ outcome.Pending → is_dead cause ≡ true → AgreesBefore kept (with_table m (killed m.table t cause))
unfolding killed
agrees-killed kept m t cause s a within pending dead =
    let w = m.table in
    let after = killed w t cause in
    let fate : (u : ℕ) → Fate (outcome_at w.outcomes u) (outcome_at after.outcomes u) = killed-fate w t cause (s.lengths.submissions ∙ sym s.lengths.outcomes) within pending dead in
    record {
      payloads = a.payloads;
      own = a.own;
      there = λ u v h. ap is_there (there-stays (outcome_at w.outcomes u) (outcome_at after.outcomes u) (fate u) (a.there u v h)) ∙ a.there u v h;
      done = λ u l h. a.done u l (sym (fate-there (outcome_at w.outcomes u) (outcome_at after.outcomes u) (fate u) (ap is_there h)) ∙ h);
      needed = λ u l h k.
          let was : outcome_at w.outcomes u ≡ outcome.Released = sym (fate-there (outcome_at w.outcomes u) (outcome_at after.outcomes u) (fate u) (ap is_there h)) ∙ h in
          let by = wanted-by after u k in
          let waited : is_wanted w u ≡ true
          = wanted-at w u by.0 (record { within = by.1.within; pending = fate-pending (outcome_at w.outcomes by.0) (outcome_at after.outcomes by.0) (fate by.0) by.1.pending; input = by.1.input }) in
          (a.released u l was).1 waited;
    }

-- fewer entries wait after one of them is settled
wanted-less : (w : Table) (t : ℕ) (o : Outcome) (u : ℕ) → is_pending o ≡ false → t < length w.outcomes → is_wanted (settled w t o) u ≡ true → is_wanted w u ≡ true
wanted-less w t o u settles within k =
    let by = wanted-by (settled w t o) u k in
    wanted-at w u by.0 (record {
      within = by.1.within;
      pending = elim (cases_eq by.0 t) [
        | inl e ↦ let here : outcome_at (set w.outcomes t o) by.0 ≡ o = rw e (get_or-set_same w.outcomes t o outcome.Pending within) in let f = ap is_pending (sym here) ∙ by.1.pending in absurd cc
        | inr n ↦ ap is_pending (sym (get_or-set_other w.outcomes t by.0 o outcome.Pending n)) ∙ by.1.pending
      ];
      input = by.1.input;
    })

-- a ticket that is done keeps its value
pub agrees-done : (kept : List (Option Value)) (m : Machine) (t : ℕ) (v : Value) → Agrees kept m → t < length kept → t < length m.table.outcomes
    → value_at (values m) t ≡ Some v → AgreesBefore (set kept t (Some v)) (with_table m (settled m.table t outcome.Done))
agrees-done kept m t v a in_kept within is =
    let os = m.table.outcomes in
    let ks = set kept t (Some v) in
    let Kept : Option Value → Type 0 = IsSome in
    let here : value_at ks t ≡ Some v = get_or-set_same kept t (Some v) None in_kept in
    let stands : outcome_at (set os t outcome.Done) t ≡ outcome.Done = get_or-set_same os t outcome.Done outcome.Pending within in
    let other : (u : ℕ) → u ≢ t → value_at ks u ≡ value_at kept u = λ u n. get_or-set_other kept t u (Some v) None n in
    let stays : (u : ℕ) → u ≢ t → outcome_at (set os t outcome.Done) u ≡ outcome_at os u = λ u n. get_or-set_other os t u outcome.Done outcome.Pending n in
    record {
      payloads = a.payloads;
      own = λ u x h. elim (cases_eq u t) [
        | inl e ↦ let f : value_at ks u ≡ Some v = rw e here in rw e (is ∙ sym f ∙ h)
        | inr n ↦ a.own u x (sym (other u n) ∙ h)
      ];
      there = λ u x h. elim (cases_eq u t) [
        | inl e ↦ let f : outcome_at (set os t outcome.Done) u ≡ outcome.Done = rw e stands in ap is_there f
        | inr n ↦ ap is_there (stays u n) ∙ a.there u x (sym (other u n) ∙ h)
      ];
      done = λ u l h. elim (cases_eq u t) [
        | inl e ↦ let f : value_at ks u ≡ Some v = rw e here in subst Kept (sym f) refl
        | inr n ↦ subst Kept (sym (other u n)) (a.done u l (sym (stays u n) ∙ h))
      ];
      needed = λ u l h k. elim (cases_eq u t) [
        | inl e ↦ let f : outcome_at (set os t outcome.Done) u ≡ outcome.Done = rw e stands in absurd cc
        | inr n ↦ subst Kept (sym (other u n)) ((a.released u l (sym (stays u n) ∙ h)).1 (wanted-less m.table t outcome.Done u refl within k))
      ];
    }

-- a ticket that is let go keeps its value where it is wanted
pub agrees-released : (kept : List (Option Value)) (m : Machine) (t : ℕ) → Agrees kept m → t < length m.table.names → t < length m.table.outcomes
    → outcome_at m.table.outcomes t ≡ outcome.Done → AgreesBefore kept (with_table m (settled m.table t outcome.Released))
agrees-released kept m t a named within was =
    let os = m.table.outcomes in
    let stands : outcome_at (set os t outcome.Released) t ≡ outcome.Released = get_or-set_same os t outcome.Released outcome.Pending within in
    let stays : (u : ℕ) → u ≢ t → outcome_at (set os t outcome.Released) u ≡ outcome_at os u = λ u n. get_or-set_other os t u outcome.Released outcome.Pending n in
    let Kept : Option Value → Type 0 = IsSome in
    record {
      payloads = a.payloads;
      own = a.own;
      there = λ u x h. elim (cases_eq u t) [
        | inl e ↦ let f : outcome_at (set os t outcome.Released) u ≡ outcome.Released = rw e stands in ap is_there f
        | inr n ↦ ap is_there (stays u n) ∙ a.there u x h
      ];
      done = λ u l h. elim (cases_eq u t) [
        | inl e ↦ let f : outcome_at (set os t outcome.Released) u ≡ outcome.Released = rw e stands in absurd cc
        | inr n ↦ a.done u l (sym (stays u n) ∙ h)
      ];
      needed = λ u l h k. elim (cases_eq u t) [
        | inl e ↦ let P : ℕ → Type 0 = λ x. IsSome (value_at kept x) in subst P (sym e) (a.done t named was)
        | inr n ↦ (a.released u l (sym (stays u n) ∙ h)).1 (wanted-less m.table t outcome.Released u refl within k)
      ];
    }
