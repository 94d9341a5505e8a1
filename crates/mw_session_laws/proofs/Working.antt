-- Work done in any order is kills first, and then everything else done in ticket order.
use Rattle.std.proofs.Common.{◌≡◌, ◌≢◌, ℕ, ◌<◌, Bool, true, false, ◌⊎◌, inl, inr, List, [], ◌∷◌, length, map, None, refl, sym, ap, ◌∙◌, subst, arith, find}
use Rattle.std.specs.List.{AllByRecursion}
use Rattle.std.specs.Option.{option_map_or}
use Rattle.std.proofs.lemmas.List.{get_or-set_same, get_or-set_other, ext_get_or, length-map, get_or-map}
use Rattle.std.proofs.lemmas.Bool.{cases_eq, cases_Bool}
use Rattle.mw_model.proofs.mw_facts.Finds.{find-same}
use Rattle.mw_model.proofs.mw_facts.Alls.{all-weaker, all-both}
use Rattle.mw_model.proofs.mw_facts.Numbers.{strong_induction}
use Rattle.mw_model.specs.declared.submissions.Submission.{Submission}
use Rattle.mw_model.specs.declared.calls.Outcome.{Outcome}
use Rattle.mw_model.specs.declared.calls.Outcome.TheVariants as outcome
use Rattle.mw_model.specs.declared.calls.LogItem.{LogItem}
use Rattle.mw_model.specs.declared.calls.LogItem.TheVariants as item
use Rattle.mw_model.specs.Refusals.{Table, outcome_at, is_pending, is_dead, is_there}
use Rattle.mw_model.specs.Machine.{Machine, with_table, killed, settled, CanDie, CanFinish, Run}
use Rattle.mw_model_laws.specs.MachineLaws.{IsSound, IsKilled, first_dead, inputs_at}
use Rattle.mw_model.specs.Scripts.{after_kills, CanAllDie, done_if_pending, Works}
use Rattle.mw_session_laws.specs.Marks.{NothingWaits}
use Rattle.mw_session_laws.specs.Marks.{killed_in, OnlyWork}
use Rattle.mw_model_laws.proofs.RunCascade.{is_killed, failed_or_waits, pending_is, not_pending}
use Rattle.mw_model_laws.proofs.RunStates.{step_sound, there_not_dead}

-- one outcome beside the other: the same, or done where the other is pending still
abbrev Ahead : Outcome → Outcome → Type 0
Ahead o p = (p ≡ o) ⊎ ((o ≡ outcome.Pending) × (p ≡ outcome.Done))

-- the second state is the first with some pending entries done
record IsAhead (b v : Machine) : Type 0 where
  names : v.table.names ≡ b.table.names
  submissions : v.table.submissions ≡ b.table.submissions
  payloads : v.payloads ≡ b.payloads
  each : (u : ℕ) → u < length b.table.names → Ahead (outcome_at b.table.outcomes u) (outcome_at v.table.outcomes u)

ahead_dead : (o p : Outcome) → Ahead o p → is_dead p ≡ is_dead o
ahead_dead o p h = elim h [
  | inl e ↦ ap is_dead e
  | inr e ↦ ap is_dead e.1 ∙ sym (ap is_dead e.0)
]

ahead_pending : (o p : Outcome) → Ahead o p → p ≡ outcome.Pending → o ≡ outcome.Pending
ahead_pending o p h e = elim h [
  | inl s ↦ sym s ∙ e
  | inr s ↦ let x : outcome.Done ≡ outcome.Pending = sym s.1 ∙ e in absurd cc
]

-- where the second is there, the first is not dead
ahead_there : (o p : Outcome) → Ahead o p → is_there p ≡ true → is_dead o ≡ false
ahead_there o p h e = elim h [
  | inl s ↦ elim (cases_Bool (is_dead o)) [
    | inl d ↦ absurd (there_not_dead p e (ap is_dead s ∙ d))
    | inr d ↦ d
  ]
  | inr s ↦ ap is_dead s.0
]

none_dead : (p : ℕ → Bool) (xs : List ℕ) → AllByRecursion (λ i. p i ≡ false) xs → find p xs ≡ None
none_dead p [] h = refl
none_dead p (x ∷ xs) h = rw (h.0, none_dead p xs h.1) refl

first_dead_same : (w v : Table) (u : ℕ) → v.submissions ≡ w.submissions
    → AllByRecursion (λ i. is_dead (outcome_at v.outcomes i) ≡ is_dead (outcome_at w.outcomes i)) (inputs_at w.submissions u) → first_dead v u ≡ first_dead w u
first_dead_same w v u e h =
    ap (λ es. find (λ i. is_dead (outcome_at v.outcomes i)) (inputs_at es u)) e
    ∙ find-same (λ i. is_dead (outcome_at v.outcomes i)) (λ i. is_dead (outcome_at w.outcomes i)) (inputs_at w.submissions u) h

-- a kill in both states: what it makes of an entry, where that is known of the entries before it
killed_each : (b v : Machine) (t u : ℕ) → IsSound b → IsAhead b v
    → IsKilled b.table (killed b.table t outcome.Memory) t outcome.Memory → IsKilled v.table (killed v.table t outcome.Memory) t outcome.Memory
    → IsSound (with_table v (killed v.table t outcome.Memory)) → outcome_at v.table.outcomes t ≡ outcome.Pending → length v.table.outcomes ≡ length b.table.names → u < length b.table.names
    → ((i : ℕ) → i < u → Ahead (outcome_at (killed b.table t outcome.Memory).outcomes i) (outcome_at (killed v.table t outcome.Memory).outcomes i))
    → Ahead (outcome_at (killed b.table t outcome.Memory).outcomes u) (outcome_at (killed v.table t outcome.Memory).outcomes u)
killed_each b v t u s a kb kv sv pending size l before =
    let wb = killed b.table t outcome.Memory in
    let wv = killed v.table t outcome.Memory in
    let subs : wv.submissions ≡ wb.submissions = kv.submissions ∙ a.submissions ∙ sym kb.submissions in
    let P : List Submission → Type 0 = λ es. AllByRecursion (λ i. i < u) (inputs_at es u) in
    let below : AllByRecursion (λ i. i < u) (inputs_at wb.submissions u) = subst P (sym kb.submissions) (s.inputs u l) in
    elim (cases_eq u t) [
      | inl same ↦ inl (ap (outcome_at (killed v.table t outcome.Memory).outcomes) same ∙ kv.dies ∙ sym (ap (outcome_at (killed b.table t outcome.Memory).outcomes) same ∙ kb.dies))
      | inr other ↦ elim (a.each u l) [
        | inl e ↦ elim (cases_Bool (is_pending (outcome_at b.table.outcomes u))) [
          | inl p ↦
              let waits : outcome_at b.table.outcomes u ≡ outcome.Pending = pending_is (outcome_at b.table.outcomes u) p in
              inl (failed_or_waits v.table (killed v.table t outcome.Memory) t outcome.Memory u kv (omega arith) other (e ∙ waits)
              ∙ ap (λ d. option_map_or outcome.Input d outcome.Pending) (first_dead_same wb wv u subs (all-weaker (λ i. i < u) (λ i. is_dead (outcome_at wv.outcomes i) ≡ is_dead (outcome_at wb.outcomes i)) (inputs_at wb.submissions u) (λ i h. ahead_dead (outcome_at wb.outcomes i) (outcome_at wv.outcomes i) (before i h)) below))
              ∙ sym (failed_or_waits b.table (killed b.table t outcome.Memory) t outcome.Memory u kb (omega (arith, s.lengths.outcomes)) other waits))
          | inr p ↦
              let settled : outcome_at b.table.outcomes u ≢ outcome.Pending = λ g. let x = ap is_pending g in absurd cc in
              inl (kv.settled u other (λ g. settled (sym e ∙ g)) ∙ e ∙ sym (kb.settled u other settled))
        ]
        | inr e ↦
            let done : outcome_at wv.outcomes u ≡ outcome.Done = kv.settled u other (λ g. let x : outcome.Done ≡ outcome.Pending = sym e.1 ∙ g in absurd cc) ∙ e.1 in
            let l' : u < length wv.names = omega (arith, ap length kv.names, ap length a.names) in
            let Q : List Submission → Type 0 = λ es. AllByRecursion (λ i. is_there (outcome_at wv.outcomes i) ≡ true) (inputs_at es u) in
            let there = subst Q subs (sv.done u l' (ap is_there done)) in
            let alive = all-both (λ i. i < u) (λ i. is_there (outcome_at wv.outcomes i) ≡ true) (λ i. is_dead (outcome_at wb.outcomes i) ≡ false) (inputs_at wb.submissions u)
            (λ i h k. ahead_there (outcome_at wb.outcomes i) (outcome_at wv.outcomes i) (before i h) k) below there in
            inr (
              failed_or_waits b.table wb t outcome.Memory u kb (omega (arith, s.lengths.outcomes)) other e.0
                  ∙ ap (λ d. option_map_or outcome.Input d outcome.Pending) (none_dead (λ i. is_dead (outcome_at wb.outcomes i)) (inputs_at wb.submissions u) alive),
              done,
            )
      ]
    ]

-- one kill in both states
ahead_killed : (b v : Machine) (t : ℕ) → IsSound b → IsSound v → IsAhead b v → CanDie v.table t
    → CanDie b.table t × IsSound (with_table b (killed b.table t outcome.Memory)) × IsSound (with_table v (killed v.table t outcome.Memory))
    × IsAhead (with_table b (killed b.table t outcome.Memory)) (with_table v (killed v.table t outcome.Memory))
ahead_killed b v t s r a can =
    let size_b : length b.table.outcomes ≡ length b.table.names = s.lengths.outcomes in
    let size_v : length v.table.outcomes ≡ length b.table.names = omega (arith, r.lengths.outcomes, ap length a.names) in
    let within : t < length b.table.names = omega (arith, can.within) in
    let can_b : CanDie b.table t = record { within = omega arith; pending = ahead_pending (outcome_at b.table.outcomes t) (outcome_at v.table.outcomes t) (a.each t within) can.pending } in
    let kb = is_killed b.table t outcome.Memory (omega (arith, s.lengths.submissions)) (λ u h. s.inputs u (omega arith)) can_b.within refl in
    let kv = is_killed v.table t outcome.Memory (omega (arith, r.lengths.submissions, r.lengths.outcomes)) (λ u h. r.inputs u (omega (arith, r.lengths.outcomes))) can.within refl in
    let sb = step_sound b (item.Killed t) (with_table b (killed b.table t outcome.Memory)) s (can_b, refl) in
    let sv = step_sound v (item.Killed t) (with_table v (killed v.table t outcome.Memory)) r (can, refl) in (
      can_b,
      sb,
      sv,
      record {
        names = kv.names ∙ a.names ∙ sym kb.names;
        submissions = kv.submissions ∙ a.submissions ∙ sym kb.submissions;
        payloads = a.payloads;
        each = λ u h. strong_induction (λ i. i < length b.table.names → Ahead (outcome_at (killed b.table t outcome.Memory).outcomes i) (outcome_at (killed v.table t outcome.Memory).outcomes i))
            (λ i before l. killed_each b v t i s a kb kv sv can.pending size_v l (λ j h'. before j h' (omega arith))) u (omega (arith, ap length kb.names));
      },
    )

-- one entry done in the second state
ahead_done : (b v : Machine) (t : ℕ) → IsSound b → IsSound v → IsAhead b v → CanFinish v.table t → IsAhead b (with_table v (settled v.table t outcome.Done))
ahead_done b v t s r a can = record {
  names = a.names;
  submissions = a.submissions;
  payloads = a.payloads;
  each = λ u h. elim (cases_eq u t) [
    | inl same ↦
        let P : ℕ → Type 0 = λ i. Ahead (outcome_at b.table.outcomes i) (outcome_at (settled v.table t outcome.Done).outcomes i) in
        subst P (sym same) (inr (
          ahead_pending (outcome_at b.table.outcomes t) (outcome_at v.table.outcomes t) (a.each t (omega (arith, can.within, r.lengths.outcomes, ap length a.names))) can.pending,
          get_or-set_same v.table.outcomes t outcome.Done outcome.Pending can.within,
        ))
    | inr other ↦ rw (get_or-set_other v.table.outcomes t u outcome.Done outcome.Pending other) (a.each u h)
  ];
}

record HasWorked (b : Machine) (kills : List ℕ) (n : Machine) : Type 0 where
  pub die : CanAllDie b kills
  pub sound : IsSound (after_kills b kills)
  pub sound_after : IsSound n
  pub ahead : IsAhead (after_kills b kills) n

works_ahead : (items : List LogItem) (b v n : Machine) → IsSound b → IsSound v → IsAhead b v → OnlyWork items → Run v items n → HasWorked b (killed_in items) n
works_ahead [] b v n s r a w run = record { die = tt; sound = s; sound_after = subst IsSound (sym run) r; ahead = subst (IsAhead b) (sym run) a }
works_ahead (item.Call c p ∷ items) b v n s r a w run = absurd w
works_ahead (item.Finished t ∷ items) b v n s r a w run =
    let mid = with_table v (settled v.table t outcome.Done) in
    let next = ahead_done b v t s r a run.1.0 in
    works_ahead items b run.0 n s (step_sound v (item.Finished t) run.0 r run.1) (subst (IsAhead b) (sym run.1.1) next) w run.2
works_ahead (item.Killed t ∷ items) b v n s r a w run =
    let k = ahead_killed b v t s r a run.1.0 in
    let more = works_ahead items (with_table b (killed b.table t outcome.Memory)) run.0 n k.1 (step_sound v (item.Killed t) run.0 r run.1)
    (subst (IsAhead (with_table b (killed b.table t outcome.Memory))) (sym run.1.1) k.3) w run.2 in
    record { die = (k.0, more.die); sound = more.sound; sound_after = more.sound_after; ahead = more.ahead }

done_beside : (o p : Outcome) → Ahead o p → p ≢ outcome.Pending → p ≡ done_if_pending o
done_beside o p h n = elim h [
  | inl e ↦
      let settled : is_pending o ≡ false = not_pending o (λ x. n (e ∙ x)) in
      rw settled e
  | inr e ↦ rw e.0 e.1
]

pub machine_is : (b n : Machine) (os : List Outcome) → n.table.names ≡ b.table.names → n.table.submissions ≡ b.table.submissions → n.table.outcomes ≡ os → n.payloads ≡ b.payloads
    → n ≡ with_table b (record b.table { outcomes = os })
machine_is b n os e f g h = rw (← e, ← f, ← g, ← h) refl

-- work that leaves nothing pending
pub works_any_order : (items : List LogItem) (m n : Machine) → IsSound m → OnlyWork items → Run m items n → NothingWaits n.table → Works true m (killed_in items) n
works_any_order items m n s w run none =
    let h = works_ahead items m m n s s (record { names = refl; submissions = refl; payloads = refl; each = λ u l. inl refl }) w run in
    let b = after_kills m (killed_in items) in
    let sizes : length n.table.outcomes ≡ length b.table.outcomes = omega (arith, h.sound.lengths.outcomes, h.sound_after.lengths.outcomes, ap length h.ahead.names) in
    let outcomes : n.table.outcomes ≡ map done_if_pending b.table.outcomes = ext_get_or outcome.Pending n.table.outcomes (map done_if_pending b.table.outcomes) (sizes ∙ sym (length-map b.table.outcomes done_if_pending))
    (λ u l. done_beside (outcome_at b.table.outcomes u) (outcome_at n.table.outcomes u) (h.ahead.each u (omega (arith, sizes, h.sound.lengths.outcomes))) (none u (omega (arith, h.sound_after.lengths.outcomes)))
    ∙ sym (get_or-map done_if_pending b.table.outcomes u outcome.Pending outcome.Pending (omega (arith, sizes)))) in
    (h.die, machine_is b n (map done_if_pending b.table.outcomes) h.ahead.names h.ahead.submissions outcomes h.ahead.payloads)
