-- The core goes on standing for the machine.
use Rattle.std.proofs.Common.{◌≡◌, ◌≢◌, ℕ, ◌+◌, ◌<◌, Bool, true, false, cond, inl, inr, List, [], ◌∷◌, ◌++◌, length, set, Option, Some, None, refl, sym, ap, ◌∙◌, subst, arith, length-append}
use Rattle.std.proofs.lemmas.List.{get_or-set_same, get_or-set_other, get_or_past}
use Rattle.std.proofs.lemmas.Bool.{cases_lt, cases_eq}
use Rattle.mw_model.proofs.mw_facts.Elements.{get_or-push_below, get_or-push_last}
use Rattle.mw_model.proofs.mw_facts.Numbers.{below_or_last}
use Rattle.mw_model.specs.declared.names.Name.{Name}
use Rattle.mw_model.specs.declared.submissions.Submission.{Submission}
use Rattle.mw_model.specs.declared.calls.Outcome.{Outcome}
use Rattle.mw_model.specs.declared.calls.Outcome.TheVariants as outcome
use Rattle.mw_model.specs.declared.calls.Call.{Call}
use Rattle.mw_model.specs.declared.calls.Reply.{Reply}
use Rattle.mw_model.specs.declared.calls.LogItem.{LogItem}
use Rattle.mw_model.specs.declared.calls.LogItem.TheVariants as item
use Rattle.mw_model.specs.Values.{Value}
use Rattle.mw_model.specs.Refusals.{Table, outcome_at, is_pending, is_dead, is_there, refusal}
use Rattle.mw_model.specs.Machine.{Machine, Run, Step, IsWith, start_state, answer, refused_or, reply_from, reply_to, after, with_entry, with_table, killed, settled}
use Rattle.mw_model.specs.Tasks.{Progress}
use Rattle.mw_model.specs.Stands.{CoreView, StandsFor, Agrees, IsWork, progress_at}
use Rattle.mw_store.specs.mw_model_laws.MachineLaws.{IsSound}
use Rattle.mw_store.proofs.mw_model_laws.RunStates.{reached}
use Rattle.mw_store.proofs.mw_model_laws.RunSteps.{pushed}
use Rattle.mw_store.proofs.mw_model_laws.RunCascade.{pending_is}
use Rattle.mw_store.specs.Stored.{DropsSpent}
use Rattle.mw_store.proofs.CascadeLemmas.{fate-pending}
use Rattle.mw_core_laws.specs.Facts.{IsComplete}
use Rattle.mw_core_laws.specs.Changes.{KeepsWork}
use Rattle.mw_core_laws.proofs.RunLemmas.{run-push}
use Rattle.mw_core_laws.proofs.GivenLemmas.{elements-given}
use Rattle.mw_core_laws.proofs.RefusalLemmas.{refusal-kept}
use Rattle.mw_core_laws.proofs.FateLemmas.{killed-fate}
use Rattle.mw_core_laws.proofs.AgreeLemmas.{AgreesBefore, agrees-dropped, agrees-killed}
use Rattle.mw_core_laws.proofs.WorkLemmas.{work-pushed, work-killed, work-settled}

-- ---- what is known of the machine

pub stands-sound : (c : CoreView) (m : Machine) → StandsFor c m → IsSound m
stands-sound c m s = reached c.log m s.run

-- the refusal and the reply are the machine's
pub stands-refusal : (c : CoreView) (m : Machine) (q : Call) → StandsFor c m → refusal c.table c.kept q ≡ refusal m.table m.payloads q
stands-refusal c m q s =
    ap (λ w. refusal w c.kept q) s.table ∙ refusal-kept c.kept m q (stands-sound c m s) (elements-given c.log m s.run) s.agrees

pub stands-reply : (c : CoreView) (m : Machine) (q : Call) → StandsFor c m → reply_from c.table c.kept q ≡ reply_to m q
stands-reply c m q s = ap (λ w. reply_from w c.kept q) s.table
    ∙ ap (λ r. refused_or r (answer m.table q)) (refusal-kept c.kept m q (stands-sound c m s) (elements-given c.log m s.run) s.agrees)

-- ---- calls that change no entry

pub stands-quiet : (c new : CoreView) (m : Machine) (q : Call) (v : Option Value) (r : Reply) → after m q v ≡ m → IsWith q v → StandsFor c m → r ≡ reply_to m q
    → new ≡ record c { log = c.log ++ item.Call q r ∷ [] } → StandsFor new (after m q v)
stands-quiet c new m q v r same with s told is =
    let P : Machine → Type 0 = λ n. StandsFor (record c { log = c.log ++ item.Call q r ∷ [] }) n in
    let Q : CoreView → Type 0 = λ d. StandsFor d (after m q v) in
    subst Q (sym is) (subst P (sym same) (record {
      run = run-push start_state m m c.log (item.Call q r) s.run (v, with, told, sym same);
      table = s.table;
      agrees = s.agrees;
      work = s.work;
      idle = s.idle;
    }))

-- ---- one entry more

-- the work after one entry more
abbrev pub HasWork : Machine → Option Progress → Outcome → Type 0
HasWork k x o = (o ≡ outcome.Pending → (p : Progress) × (x ≡ Some p) × ((t : ℕ) → t + 1 ≡ length k.table.names → IsWork k t p)) × ((p : Progress) → x ≡ Some p → o ≡ outcome.Pending)

pub stands-added : (c new : CoreView) (m : Machine) (q : Call) (n : Name) (e : Submission) (o : Outcome) (v : Option Value) (x : Option Progress) (r : Reply)
    → IsComplete c → StandsFor c m → IsWith q v → r ≡ reply_to m q → after m q v ≡ pushed m n e o v
    → Agrees (c.kept ++ v ∷ []) (pushed m n e o v) → HasWork (pushed m n e o v) x o
    → new.table ≡ with_entry c.table n e o → new.kept ≡ c.kept ++ v ∷ [] → new.work ≡ c.work ++ x ∷ [] → new.log ≡ c.log ++ item.Call q r ∷ []
    → StandsFor new (after m q v)
stands-added c new m q n e o v x r whole s with told is agrees fresh table kept work log =
    let k = pushed m n e o v in
    let sound = stands-sound c m s in
    let N = length m.table.names in
    let works : length c.work ≡ N = whole.work ∙ ap (λ w. length w.names) s.table in
    let P : Machine → Type 0 = λ y. StandsFor new y in
    let L : List LogItem → Type 0 = λ l. Run start_state l k in
    let K : List (Option Value) → Type 0 = λ ks. Agrees ks k in
    subst P (sym is) (record {
      run = subst L (sym log) (run-push start_state m k c.log (item.Call q r) s.run (v, with, told, sym is));
      table = table ∙ ap (λ w. with_entry w n e o) s.table;
      agrees = subst K (sym kept) agrees;
      work = λ t l h. elim (below_or_last N t (omega (arith, length-append m.table.names (n ∷ [])))) [
        | inl l' ↦
            let was = s.work t l' (sym (get_or-push_below m.table.outcomes o outcome.Pending t (omega (arith, sound.lengths.outcomes))) ∙ h) in
            (was.0, ap (λ ws. progress_at ws t) work ∙ get_or-push_below c.work x None t (omega arith) ∙ was.1, work-pushed m n e o v t was.0 sound l' was.2)
        | inr l' ↦
            let new_one = fresh.0 (sym (get_or-push_last m.table.outcomes o outcome.Pending t (omega (arith, sound.lengths.outcomes))) ∙ h) in
            (new_one.0, ap (λ ws. progress_at ws t) work ∙ get_or-push_last c.work x None t (omega arith) ∙ new_one.1, new_one.2 t (omega (arith, length-append m.table.names (n ∷ []))))
      ];
      idle = λ t p h. elim (cases_lt t N) [
        | inl l ↦ get_or-push_below m.table.outcomes o outcome.Pending t (omega (arith, sound.lengths.outcomes)) ∙ s.idle t p (sym (get_or-push_below c.work x None t (omega arith)) ∙ ap (λ ws. progress_at ws t) (sym work) ∙ h)
        | inr g ↦ elim (cases_eq t N) [
          | inl l ↦ get_or-push_last m.table.outcomes o outcome.Pending t (omega (arith, sound.lengths.outcomes)) ∙ fresh.1 p (sym (get_or-push_last c.work x None t (omega arith)) ∙ ap (λ ws. progress_at ws t) (sym work) ∙ h)
          | inr d ↦ get_or_past (m.table.outcomes ++ o ∷ []) t outcome.Pending (omega (arith, length-append m.table.outcomes (o ∷ []), sound.lengths.outcomes))
        ]
      ];
    })

-- ---- deaths

kept-where : (b : Bool) (x : Option Progress) (p : Progress) → cond b x None ≡ Some p → (b ≡ true) × (x ≡ Some p)
kept-where true x p h = (refl, h)
kept-where false x p h = absurd cc

pub stands-dies : (c new : CoreView) (m : Machine) (t : ℕ) (cause : Outcome) (i : LogItem) → IsComplete c → StandsFor c m → t < length c.table.names
    → outcome_at c.table.outcomes t ≡ outcome.Pending → is_dead cause ≡ true → Step m i (with_table m (killed m.table t cause))
    → new.table ≡ killed c.table t cause → DropsSpent new.table c.kept new.kept → KeepsWork new.table c.work new.work → new.log ≡ c.log ++ i ∷ []
    → StandsFor new (with_table m (killed m.table t cause))
unfolding killed
stands-dies c new m t cause i whole s named pending dead step table kept work log =
    let sound = stands-sound c m s in
    let n = with_table m (killed m.table t cause) in
    let Named : Table → Type 0 = λ w. t < length w.names in
    let Pends : Table → Type 0 = λ w. outcome_at w.outcomes t ≡ outcome.Pending in
    let within : t < length m.table.outcomes = omega (arith, subst Named s.table named, sound.lengths.outcomes) in
    let waits : outcome_at m.table.outcomes t ≡ outcome.Pending = subst Pends s.table pending in
    let is : new.table ≡ n.table = table ∙ ap (λ w. killed w t cause) s.table in
    let L : List LogItem → Type 0 = λ l. Run start_state l n in
    let Drops : Table → Type 0 = λ w. DropsSpent w c.kept new.kept in
    let Keeps : Table → Type 0 = λ w. KeepsWork w c.work new.work in
    let works : KeepsWork n.table c.work new.work = subst Keeps is work in
    let fate = killed-fate m.table t cause (sound.lengths.submissions ∙ sym sound.lengths.outcomes) within waits dead in
    record {
      run = subst L (sym log) (run-push start_state m n c.log i s.run step);
      table = is;
      agrees = agrees-dropped c.kept new.kept n (agrees-killed c.kept m t cause sound s.agrees within waits dead) (subst Drops is kept);
      work = λ u l h.
          let before : outcome_at m.table.outcomes u ≡ outcome.Pending
          = pending_is (outcome_at m.table.outcomes u) (fate-pending (outcome_at m.table.outcomes u) (outcome_at n.table.outcomes u) (fate u) (ap is_pending h)) in
          let was = s.work u l before in
          (was.0, works u ∙ ap (λ o. cond (is_pending o) (progress_at c.work u) None) h ∙ was.1, work-killed m t cause u was.0 sound within waits dead was.2);
      idle = λ u p h.
          let had = kept-where (is_pending (outcome_at n.table.outcomes u)) (progress_at c.work u) p (sym (works u) ∙ h) in
          pending_is (outcome_at n.table.outcomes u) had.0;
    }

-- ---- a ticket is done, or is let go

-- the work under a ticket that is settled is gone
pub stands-settled : (c new : CoreView) (m : Machine) (t : ℕ) (o : Outcome) (kept : List (Option Value)) (i : LogItem) → IsComplete c → StandsFor c m → t < length c.table.names
    → is_there o ≡ true → is_pending o ≡ false → Step m i (with_table m (settled m.table t o)) → AgreesBefore kept (with_table m (settled m.table t o))
    → new.table ≡ settled c.table t o → DropsSpent new.table kept new.kept → new.log ≡ c.log ++ i ∷ []
    → progress_at new.work t ≡ None → ((u : ℕ) → u ≢ t → progress_at new.work u ≡ progress_at c.work u)
    → StandsFor new (with_table m (settled m.table t o))
stands-settled c new m t o kept i whole s named there settles step agrees table drops log gone others =
    let sound = stands-sound c m s in
    let n = with_table m (settled m.table t o) in
    let Named : Table → Type 0 = λ w. t < length w.names in
    let within : t < length m.table.outcomes = omega (arith, subst Named s.table named, sound.lengths.outcomes) in
    let is : new.table ≡ n.table = table ∙ ap (λ w. settled w t o) s.table in
    let L : List LogItem → Type 0 = λ l. Run start_state l n in
    let Drops : Table → Type 0 = λ w. DropsSpent w kept new.kept in
    let here : outcome_at (set m.table.outcomes t o) t ≡ o = get_or-set_same m.table.outcomes t o outcome.Pending within in
    let stays : (u : ℕ) → u ≢ t → outcome_at (set m.table.outcomes t o) u ≡ outcome_at m.table.outcomes u = λ u d. get_or-set_other m.table.outcomes t u o outcome.Pending d in
    record {
      run = subst L (sym log) (run-push start_state m n c.log i s.run step);
      table = is;
      agrees = agrees-dropped kept new.kept n agrees (subst Drops is drops);
      work = λ u l h. elim (cases_eq u t) [
        | inl e ↦ let f : outcome_at (set m.table.outcomes t o) u ≡ o = rw e here in let g : is_pending o ≡ true = ap is_pending (sym f ∙ h) in absurd cc
        | inr d ↦ let was = s.work u l (sym (stays u d) ∙ h) in (was.0, others u d ∙ was.1, work-settled m t o u was.0 within there was.2)
      ];
      idle = λ u p h. elim (cases_eq u t) [
        | inl e ↦ let P : ℕ → Type 0 = λ y. progress_at new.work y ≡ None in let f : progress_at new.work u ≡ None = subst P (sym e) gone in absurd cc
        | inr d ↦ stays u d ∙ s.idle u p (sym (others u d) ∙ h)
      ];
    }
