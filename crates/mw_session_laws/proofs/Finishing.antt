-- What a script takes as work is a lawful run.
use Rattle.std.proofs.Common.{◌≡◌, ◌≢◌, ℕ, zero, suc, ◌<◌, ◌≤◌, true, false, ◌⊎◌, inl, inr, List, [], ◌∷◌, ◌++◌, length, map, refl, sym, ap, ◌∙◌, subst, arith}
use Rattle.std.specs.List.{AllByRecursion}
use Rattle.std.proofs.lemmas.List.{get_or-set_same, get_or-set_other, length-set, ext_get_or, length-map, get_or-map, append-nil}
use Rattle.std.proofs.lemmas.Bool.{cases_lt, cases_Bool}
use Rattle.mw_model.proofs.mw_facts.Alls.{all-both}
use Rattle.mw_model.specs.declared.submissions.Submission.{Submission}
use Rattle.mw_model.specs.declared.calls.Outcome.{Outcome}
use Rattle.mw_model.specs.declared.calls.Outcome.TheVariants as outcome
use Rattle.mw_model.specs.declared.calls.LogItem.{LogItem}
use Rattle.mw_model.specs.declared.calls.LogItem.TheVariants as item
use Rattle.mw_model.specs.Refusals.{outcome_at, is_pending, is_dead, is_there}
use Rattle.mw_model.specs.Machine.{Machine, with_table, killed, settled, CanFinish, Run}
use Rattle.mw_model_laws.specs.MachineLaws.{IsSound, inputs_at}
use Rattle.mw_model.specs.Scripts.{after_kills, CanAllDie, all_done, done_if_pending, Works}
use Rattle.mw_session_laws.specs.Marks.{NothingWaits}
use Rattle.mw_session_laws.specs.Marks.{killed_in, OnlyWork}
use Rattle.mw_model_laws.proofs.RunCascade.{pending_is}
use Rattle.mw_model_laws.proofs.RunStates.{step_sound}
use Rattle.mw_model_laws.proofs.RunReplay.{run_join}
use Rattle.mw_session_laws.proofs.Working.{machine_is}

-- in the second state the pending entries below k are done, and nothing else is changed
record DoneTo (k : ℕ) (m n : Machine) : Type 0 where
  names : n.table.names ≡ m.table.names
  submissions : n.table.submissions ≡ m.table.submissions
  payloads : n.payloads ≡ m.payloads
  size : length n.table.outcomes ≡ length m.table.outcomes
  below : (u : ℕ) → u < k → outcome_at n.table.outcomes u ≡ done_if_pending (outcome_at m.table.outcomes u)
  above : (u : ℕ) → k ≤ u → outcome_at n.table.outcomes u ≡ outcome_at m.table.outcomes u

record FinishesTo (k : ℕ) (m : Machine) : Type 0 where
  items : List LogItem
  state : Machine
  run : Run m items state
  only : OnlyWork items
  kills : killed_in items ≡ []
  done : DoneTo k m state

pub only_append : (xs ys : List LogItem) → OnlyWork xs → OnlyWork ys → OnlyWork (xs ++ ys)
only_append [] ys h k = k
only_append (item.Call c r ∷ xs) ys h k = absurd h
only_append (item.Finished t ∷ xs) ys h k = only_append xs ys h k
only_append (item.Killed t ∷ xs) ys h k = only_append xs ys h k

pub kills_append : (xs ys : List LogItem) → killed_in (xs ++ ys) ≡ killed_in xs ++ killed_in ys
kills_append [] ys = refl
kills_append (item.Call c r ∷ xs) ys = kills_append xs ys
kills_append (item.Finished t ∷ xs) ys = kills_append xs ys
kills_append (item.Killed t ∷ xs) ys = ap (λ l. t ∷ l) (kills_append xs ys)

done_there : (o : Outcome) → is_dead o ≡ false → is_there (done_if_pending o) ≡ true
done_there outcome.Pending h = refl
done_there outcome.Done h = refl
done_there outcome.Cancelled h = cc
done_there outcome.Memory h = cc
done_there (outcome.Input s) h = cc
done_there outcome.Released h = refl

done_not_pending : (o : Outcome) → done_if_pending o ≢ outcome.Pending
done_not_pending outcome.Pending e = cc
done_not_pending outcome.Done e = cc
done_not_pending outcome.Cancelled e = cc
done_not_pending outcome.Memory e = cc
done_not_pending (outcome.Input s) e = cc
done_not_pending outcome.Released e = cc

below_or_at : (u k : ℕ) → u < suc k → (u < k) ⊎ (u ≡ k)
below_or_at u k h = elim (cases_lt u k) [ inl l ↦ inl l | inr g ↦ inr (omega arith) ]

finish_one : (k : ℕ) (m : Machine) → IsSound m → k < length m.table.names → outcome_at m.table.outcomes k ≡ outcome.Pending → FinishesTo k m → FinishesTo (suc k) m
finish_one k m s l p f =
    let n = f.state in
    let d = f.done in
    let within : k < length n.table.outcomes = omega (arith, d.size, s.lengths.outcomes) in
    let Q : List Submission → Type 0 = λ es. AllByRecursion (λ i. is_there (outcome_at n.table.outcomes i) ≡ true) (inputs_at es k) in
    let there = all-both (λ i. i < k) (λ i. is_dead (outcome_at m.table.outcomes i) ≡ false) (λ i. is_there (outcome_at n.table.outcomes i) ≡ true) (inputs_at m.table.submissions k)
    (λ i h alive. rw (d.below i h) (done_there (outcome_at m.table.outcomes i) alive)) (s.inputs k l) (s.pending k l p) in
    let can : CanFinish n.table k = record { within = within; pending = d.above k (omega arith) ∙ p; inputs_there = subst Q (sym d.submissions) there } in
    let next = with_table n (settled n.table k outcome.Done) in
    record {
      items = f.items ++ item.Finished k ∷ [];
      state = next;
      run = run_join f.items (item.Finished k ∷ []) m n next f.run (next, (can, refl), refl);
      only = only_append f.items (item.Finished k ∷ []) f.only tt;
      kills = kills_append f.items (item.Finished k ∷ []) ∙ rw f.kills refl;
      done = record {
        names = d.names;
        submissions = d.submissions;
        payloads = d.payloads;
        size = length-set n.table.outcomes k outcome.Done ∙ d.size;
        below = λ u h. elim (below_or_at u k h) [
          | inl b ↦ get_or-set_other n.table.outcomes k u outcome.Done outcome.Pending (λ e. omega (arith, e)) ∙ d.below u b
          | inr e ↦
              let R : ℕ → Type 0 = λ i. outcome_at (settled n.table k outcome.Done).outcomes i ≡ done_if_pending (outcome_at m.table.outcomes i) in
              subst R (sym e) (get_or-set_same n.table.outcomes k outcome.Done outcome.Pending within ∙ sym (ap done_if_pending p))
        ];
        above = λ u h. get_or-set_other n.table.outcomes k u outcome.Done outcome.Pending (λ e. omega (arith, e)) ∙ d.above u (omega arith);
      };
    }

pass_one : (k : ℕ) (m : Machine) → is_pending (outcome_at m.table.outcomes k) ≡ false → FinishesTo k m → FinishesTo (suc k) m
pass_one k m p f = record {
  items = f.items;
  state = f.state;
  run = f.run;
  only = f.only;
  kills = f.kills;
  done = record {
    names = f.done.names;
    submissions = f.done.submissions;
    payloads = f.done.payloads;
    size = f.done.size;
    below = λ u h. elim (below_or_at u k h) [
      | inl b ↦ f.done.below u b
      | inr e ↦
          let R : ℕ → Type 0 = λ i. outcome_at f.state.table.outcomes i ≡ done_if_pending (outcome_at m.table.outcomes i) in
          subst R (sym e) (f.done.above k (omega arith) ∙ rw p refl)
    ];
    above = λ u h. f.done.above u (omega arith);
  };
}

finish_to : (k : ℕ) (m : Machine) → IsSound m → k ≤ length m.table.names → FinishesTo k m
finish_to zero m s l = record {
  items = [];
  state = m;
  run = refl;
  only = tt;
  kills = refl;
  done = record { names = refl; submissions = refl; payloads = refl; size = refl; below = λ u h. absurd (omega arith); above = λ u h. refl };
}
finish_to (suc k) m s l =
    let f = finish_to k m s (omega arith) in
    elim (cases_Bool (is_pending (outcome_at m.table.outcomes k))) [
      | inl p ↦ finish_one k m s (omega arith) (pending_is (outcome_at m.table.outcomes k) p) f
      | inr p ↦ pass_one k m p f
    ]

-- everything pending may be done, in ticket order
done_is_run : (m : Machine) → IsSound m → (items : List LogItem) × Run m items (all_done m) × OnlyWork items × (killed_in items ≡ []) × NothingWaits (all_done m).table
done_is_run m s =
    let N = length m.table.names in
    let f = finish_to N m s (omega arith) in
    let outs = s.lengths.outcomes in
    let same : f.state.table.outcomes ≡ map done_if_pending m.table.outcomes = ext_get_or outcome.Pending f.state.table.outcomes (map done_if_pending m.table.outcomes) (f.done.size ∙ sym (length-map m.table.outcomes done_if_pending))
    (λ u l. f.done.below u (omega (arith, f.done.size)) ∙ sym (get_or-map done_if_pending m.table.outcomes u outcome.Pending outcome.Pending (omega (arith, f.done.size)))) in
    let is : f.state ≡ all_done m = machine_is m f.state (map done_if_pending m.table.outcomes) f.done.names f.done.submissions same f.done.payloads in (
      f.items,
      subst (Run m f.items) is f.run,
      f.only,
      f.kills,
      λ u l e. done_not_pending (outcome_at m.table.outcomes u) (sym (get_or-map done_if_pending m.table.outcomes u outcome.Pending outcome.Pending (omega arith)) ∙ e),
    )

-- so may these tickets die, one after another
kills_are_run : (kills : List ℕ) (m : Machine) → IsSound m → CanAllDie m kills → (items : List LogItem) × Run m items (after_kills m kills) × OnlyWork items × (killed_in items ≡ kills) × IsSound (after_kills m kills)
kills_are_run [] m s c = ([], refl, tt, refl, s)
kills_are_run (t ∷ ts) m s c =
    let next = with_table m (killed m.table t outcome.Memory) in
    let r = kills_are_run ts next (step_sound m (item.Killed t) next s (c.0, refl)) c.1 in
    (item.Killed t ∷ r.0, (next, (c.0, refl), r.1), r.2, ap (λ l. t ∷ l) r.3, r.4)

-- the work before a request is a run of work that leaves nothing pending
pub works_is_run : (kills : List ℕ) (m n : Machine) → IsSound m → Works true m kills n → (items : List LogItem) × Run m items n × OnlyWork items × (killed_in items ≡ kills) × NothingWaits n.table
works_is_run kills m n s w =
    let a = kills_are_run kills m s w.0 in
    let b = done_is_run (after_kills m kills) a.4 in
    let P : Machine → Type 0 = λ x. (items : List LogItem) × Run m items x × OnlyWork items × (killed_in items ≡ kills) × NothingWaits x.table in
    subst P (sym w.1) (
      a.0 ++ b.0,
      run_join a.0 b.0 m (after_kills m kills) (all_done (after_kills m kills)) a.1 b.1,
      only_append a.0 b.0 a.2 b.2,
      kills_append a.0 b.0 ∙ rw (a.3, b.3) (append-nil kills),
      b.4,
    )
