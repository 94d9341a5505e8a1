-- What holds of every ledger stays so while entries and items are added, entries end, and work goes on.
use Rattle.std.proofs.Common.{◌≡◌, ℕ, ◌+◌, ◌<◌, ◌≤◌, Bool, true, false, cond, ◌⊎◌, inl, inr, List, [], ◌∷◌, ◌++◌, length, set, Option, Some, None, refl, sym, ap, ◌∙◌, subst, arith, length-append}
use Rattle.std.specs.Option.{IfSome}
use Rattle.std.specs.List.{AllByRecursion}
use Rattle.std.proofs.lemmas.Bool.{cases_eq, cases_lt}
use Rattle.std.proofs.lemmas.List.{get_or-set_same, get_or-set_other, get_or_past, length-set}
use Rattle.mw_model.proofs.mw_facts.Alls.{all-both, all-weaker, all-append_left, all-append_right}
use Rattle.mw_model.proofs.mw_facts.Elements.{get_or-push_below, get_or-push_last}
use Rattle.mw_model.proofs.mw_facts.Numbers.{below_or_last}
use Rattle.mw_model.specs.declared.names.Name.{Name}
use Rattle.mw_model.specs.declared.submissions.Submission.{Submission}
use Rattle.mw_model.specs.declared.submissions.Inputs.{Inputs}
use Rattle.mw_model.specs.declared.calls.LogItem.{LogItem}
use Rattle.mw_model.specs.declared.calls.Outcome.{Outcome}
use Rattle.mw_model.specs.declared.calls.Outcome.TheVariants as outcome
use Rattle.mw_model.specs.Values.{Value, option_list, tickets}
use Rattle.mw_model.specs.Refusals.{Table, is_element, is_pending, no_submission, outcome_at, submission_at, shape_at}
use Rattle.mw_model.specs.Machine.{with_entry}
use Rattle.mw_model.specs.Tasks.{Progress, remaining_tasks, task_count}
use Rattle.mw_core_tasks.specs.mw_core_progress.ProgressView.{ProgressView, IsFinished, IsStarted}
use Rattle.mw_core_tasks.specs.mw_store.declared.kept.Entry.{Entry}
use Rattle.mw_core_tasks.specs.mw_store.declared.kept.Entry.TheVariants as entry
use Rattle.mw_core_tasks.specs.mw_store.Entries.{submission_of, outcome_of}
use Rattle.mw_core_tasks.specs.mw_store.Stored.{StoreIsWhole}
use Rattle.mw_core_tasks.specs.mw_core_laws.Limits.{FitsLimits, ShapesFit}
use Rattle.mw_core_tasks.specs.Planning.{IsPlannedAt, IsPlannedOn}
use Rattle.mw_core_ledger.specs.Books.{Book, IsOrderly, stored_in, work_at}

-- ---- nothing yet

-- ---- entries that end

-- the submissions stay, and no other work stands anywhere than before
pub record Follows (old new : Book) : Type 0 where
  pub stored : StoreIsWhole (stored_in new)
  pub submissions : new.table.submissions ≡ old.table.submissions
  pub names : length new.table.names ≡ length old.table.names
  pub count : length new.in_progress ≡ length old.in_progress
  pub in_progress : (t : ℕ) (u : ProgressView) → work_at new.in_progress t ≡ Some u → work_at old.in_progress t ≡ Some u
  pub under : (t : ℕ) (u : ProgressView) → work_at new.in_progress t ≡ Some u → outcome_at new.table.outcomes t ≡ outcome.Pending
  pub side : new.side ≡ old.side

planned-table : (w v : Table) (t : ℕ) (u : ProgressView) → v.submissions ≡ w.submissions → IsPlannedAt w t u → IsPlannedAt v t u
planned-table w v t u same h =
    let P : List Submission → Type 0 = λ ss. IsPlannedAt (record { names = v.names; submissions = ss; outcomes = v.outcomes }) t u in
    subst P (sym same) (record { input = record { image = h.input.image; first = h.input.first; shape = h.input.shape; second = h.input.second; third = h.input.third }; allowed = h.allowed; last = h.last })

pub follows-orderly : (old new : Book) → IsOrderly old → Follows old new → IsOrderly new
follows-orderly old new o f = record {
  stored = f.stored;
  in_progress = f.count ∙ o.in_progress ∙ sym f.names;
  fits = λ t l.
      let P : List Submission → Type 0 = λ ss. FitsLimits (shape_at ss t) in
      subst P (sym f.submissions) (o.fits t (omega (arith, l, f.names)));
  under = f.under;
  planned = λ t u e. planned-table old.table new.table t u f.submissions (o.planned t u (f.in_progress t u e));
  left = λ t u e. o.left t u (f.in_progress t u e);
  most = λ t u e. o.most t u (f.in_progress t u e);
}

-- another log, and other room in it
pub alike-orderly : (b : Book) (ws : List (Option ProgressView)) (log : List LogItem) (room : ℕ) → IsOrderly b → ws ≡ b.in_progress → IsOrderly (record b { in_progress = ws; log = log; room = room })
alike-orderly b ws log room o same =
    let P : List (Option ProgressView) → Type 0 = λ xs. IsOrderly (record b { in_progress = xs; log = log; room = room }) in
    subst P (sym same) (record { stored = o.stored; in_progress = o.in_progress; fits = o.fits; under = o.under; planned = o.planned; left = o.left; most = o.most })

kept-was : (b : Bool) (o : Option ProgressView) (u : ProgressView) → cond b o None ≡ Some u → o ≡ Some u
kept-was true o u e = e
kept-was false o u e = absurd cc

-- work that is kept under some tickets only was there before
pub swept-was : (b : Bool) (new old : Option ProgressView) (u : ProgressView) → new ≡ cond b old None → new ≡ Some u → old ≡ Some u
swept-was b new old u e h = kept-was b old u (sym e ∙ h)

-- an entry that has no work gets another outcome
pub under-set : (os : List Outcome) (ws : List (Option ProgressView)) (t : ℕ) (o : Outcome) → ((u : ProgressView) → work_at ws t ≡ Some u → ⊥) → ((k : ℕ) (u : ProgressView) → work_at ws k ≡ Some u → outcome_at os k ≡ outcome.Pending)
    → (k : ℕ) (u : ProgressView) → work_at ws k ≡ Some u → outcome_at (set os t o) k ≡ outcome.Pending
under-set os ws t o none under k u h =
    elim (cases_eq k t) [
      | inl e ↦ absurd (none u (ap (work_at ws) (sym e) ∙ h))
      | inr n ↦ get_or-set_other os t k o outcome.Pending n ∙ under k u h
    ]

-- work that is kept under pending tickets only is under one
pub swept-under : (o : Outcome) (new old : Option ProgressView) (u : ProgressView) → new ≡ cond (is_pending o) old None → new ≡ Some u → o ≡ outcome.Pending
swept-under o new old u e h = kept-under o old u (sym e ∙ h)
  where
    kept-under : (o : Outcome) (old : Option ProgressView) (u : ProgressView) → cond (is_pending o) old None ≡ Some u → o ≡ outcome.Pending
    kept-under outcome.Pending old u e = refl
    kept-under outcome.Done old u e = absurd cc
    kept-under outcome.Cancelled old u e = absurd cc
    kept-under outcome.Memory old u e = absurd cc
    kept-under (outcome.Input s) old u e = absurd cc
    kept-under outcome.Released old u e = absurd cc

-- ---- an entry more

shape-stays : (ss : List Submission) (e : Submission) (i : ℕ) → i < length ss → shape_at (ss ++ e ∷ []) i ≡ shape_at ss i
shape-stays ss e i l = ap (λ (s : Submission). s.shape) (get_or-push_below ss e no_submission i l)

elements-stay : (ss : List Submission) (e : Submission) (xs : List ℕ) → AllByRecursion (λ i. i < length ss) xs → AllByRecursion (λ i. is_element (shape_at ss i) ≡ true) xs
    → AllByRecursion (λ i. is_element (shape_at (ss ++ e ∷ []) i) ≡ true) xs
elements-stay ss e xs below all =
    all-both (λ i. i < length ss) (λ i. is_element (shape_at ss i) ≡ true) (λ i. is_element (shape_at (ss ++ e ∷ []) i) ≡ true) xs
    (λ i l is. ap is_element (shape-stays ss e i l) ∙ is) below all

first-below : (P : ℕ → Type 0) (i : Inputs) (x : ℕ) → i.a ≡ Some x → AllByRecursion P (tickets i) → P x
first-below P i x first all =
    let Q : Option ℕ → Type 0 = λ a. AllByRecursion P (option_list a ++ option_list i.b ++ option_list i.c) in
    let there = subst Q first all in
    there.0

-- work that is planned for a command stays so when an entry is added
planned-stays : (w : Table) (n : Name) (e : Submission) (o : Outcome) (s : Submission) (u : ProgressView) → AllByRecursion (λ i. i < length w.submissions) (tickets s.inputs) → IsPlannedOn w s u
    → IsPlannedOn (with_entry w n e o) s u
planned-stays w n e o s u below h =
    let P : ℕ → Type 0 = λ i. i < length w.submissions in
    let i = s.inputs in
    let two = all-append_left P (option_list i.a ++ option_list i.b) (option_list i.c) below in
    let r = h.input in
    record {
      input = record {
        image = r.image;
        first = r.first;
        shape = shape-stays w.submissions e r.image (first-below P i r.image r.first below) ∙ r.shape;
        second = elements-stay w.submissions e (option_list i.b) (all-append_right P (option_list i.a) (option_list i.b) two) r.second;
        third = elements-stay w.submissions e (option_list i.c) (all-append_right P (option_list i.a ++ option_list i.b) (option_list i.c) below) r.third;
      };
      allowed = h.allowed;
      last = h.last;
    }

work-cases : (ws : List (Option ProgressView)) (o : Option ProgressView) (t : ℕ) (u : ProgressView) → work_at (ws ++ o ∷ []) t ≡ Some u → ((t < length ws) × (work_at ws t ≡ Some u)) ⊎ ((t ≡ length ws) × (o ≡ Some u))
work-cases ws o t u e =
    elim (cases_lt t (length ws + 1)) [
      | inl l ↦
          elim (below_or_last (length ws) t l) [
            | inl b ↦ inl (b, sym (get_or-push_below ws o None t b) ∙ e)
            | inr s ↦ inr (s, sym (get_or-push_last ws o None t s) ∙ e)
          ]
      | inr g ↦ let past = get_or_past (ws ++ o ∷ []) t None (omega (arith, g, length-append ws (o ∷ []))) in absurd cc
    ]

some-has : {A : Type 0} (P : A → Type 0) (o : Option A) (x : A) → o ≡ Some x → IfSome o P → P x
some-has {A = A} P o x e h = let Q : Option A → Type 0 = λ v. IfSome v P in subst Q e h

-- the submission that stands last
last-entry : (ss : List Submission) (e : Submission) (t : ℕ) → t ≡ length ss → submission_at (ss ++ e ∷ []) t ≡ e
last-entry ss e t is = get_or-push_last ss e no_submission t is

-- What is asked of an entry that is added, with its work.
pub record CanJoin (b : Book) (e : Submission) (u : Option ProgressView) : Type 0 where
  pub below : AllByRecursion (λ i. i < length b.table.names) (tickets e.inputs)
  pub fits : FitsLimits e.shape
  pub planned : IfSome u (IsPlannedOn b.table e)
  pub left : IfSome u (λ v. 1 ≤ remaining_tasks v.progress)
  pub most : IfSome u (λ v. task_count v.progress ≤ 4194304)

-- work reads an input, so it is planned for a command alone, which is pending
pub planned-pends : (w : Table) (x : Entry) (u : Option ProgressView) → IfSome u (IsPlannedOn w (submission_of x)) → IfSome u (λ v. outcome_of x ≡ outcome.Pending)
planned-pends w x None h = tt
planned-pends w (entry.Image f) (Some v) h = absurd (let first : None ≡ Some h.input.image = h.input.first in cc)
planned-pends w (entry.Element b) (Some v) h = absurd (let first : None ≡ Some h.input.image = h.input.first in cc)
planned-pends w (entry.Run s) (Some v) h = refl

under-joined : (b : Book) (o : Outcome) (u : Option ProgressView) → IsOrderly b → IfSome u (λ v. o ≡ outcome.Pending) → (t : ℕ) (v : ProgressView) → work_at (b.in_progress ++ u ∷ []) t ≡ Some v → outcome_at (b.table.outcomes ++ o ∷ []) t ≡ outcome.Pending
under-joined b o u k pends t v h =
    elim (work-cases b.in_progress u t v h) [
      | inl l ↦ get_or-push_below b.table.outcomes o outcome.Pending t (omega (arith, l.0, k.in_progress, k.stored.outcomes)) ∙ k.under t v l.1
      | inr l ↦ get_or-push_last b.table.outcomes o outcome.Pending t (l.0 ∙ k.in_progress ∙ sym k.stored.outcomes) ∙ some-has (λ x. o ≡ outcome.Pending) u v l.1 pends
    ]

-- the same book with an entry more
abbrev pub joined : Book → Name → Submission → Outcome → List (Option Value) → Option ProgressView → List LogItem → ℕ → Book
joined b n e o kept u log room = record { table = with_entry b.table n e o; kept = kept; in_progress = b.in_progress ++ u ∷ []; log = log; side = b.side; room = room }

planned-joined : (b : Book) (n : Name) (e : Submission) (o : Outcome) (u : Option ProgressView) → IsOrderly b → CanJoin b e u → (t : ℕ) (v : ProgressView) → work_at (b.in_progress ++ u ∷ []) t ≡ Some v
    → IsPlannedAt (with_entry b.table n e o) t v
planned-joined b n e o u k j t v h =
    let ss = b.table.submissions in
    let same = k.stored.submissions in
    let Planned : Submission → Type 0 = λ s. IsPlannedOn (with_entry b.table n e o) s v in
    let Below : ℕ → Submission → Type 0 = λ m s. AllByRecursion (λ i. i < m) (tickets s.inputs) in
    elim (work-cases b.in_progress u t v h) [
      | inl l ↦
          let within : t < length ss = omega (arith, l.0, k.in_progress, same) in
          let own = submission_at ss t in
          let below = all-weaker (λ i. i < t) (λ i. i < length ss) (tickets own.inputs) (λ i m. omega (arith, m, within)) (k.stored.inputs t within) in
          subst Planned (sym (get_or-push_below ss e no_submission t within)) (planned-stays b.table n e o own v below (k.planned t v l.1))
      | inr l ↦
          let below = all-weaker (λ i. i < length b.table.names) (λ i. i < length ss) (tickets e.inputs) (λ i m. omega (arith, m, same)) j.below in
          subst Planned (sym (last-entry ss e t (l.0 ∙ k.in_progress ∙ sym same))) (planned-stays b.table n e o e v below (some-has (IsPlannedOn b.table e) u v l.1 j.planned))
    ]

fits-joined : (b : Book) (n : Name) (e : Submission) (o : Outcome) → IsOrderly b → FitsLimits e.shape → ShapesFit (with_entry b.table n e o)
fits-joined b n e o k fits t l =
    let ss = b.table.submissions in
    let same = k.stored.submissions in
    let Fits : Submission → Type 0 = λ s. FitsLimits s.shape in
    elim (below_or_last (length b.table.names) t (omega (arith, l, length-append b.table.names (n ∷ [])))) [
      | inl m ↦ subst Fits (sym (get_or-push_below ss e no_submission t (omega (arith, m, same)))) (k.fits t m)
      | inr m ↦ subst Fits (sym (last-entry ss e t (m ∙ sym same))) fits
    ]

-- an entry that may be added leaves the book in order
pub joined-orderly : (b : Book) (n : Name) (e : Submission) (o : Outcome) (kept : List (Option Value)) (u : Option ProgressView) (log : List LogItem) (room : ℕ) → IsOrderly b → CanJoin b e u → IfSome u (λ v. o ≡ outcome.Pending)
    → StoreIsWhole (stored_in (joined b n e o kept u log room)) → IsOrderly (joined b n e o kept u log room)
joined-orderly b n e o kept u log room k j pends whole = record {
  stored = whole;
  in_progress = omega (arith, length-append b.in_progress (u ∷ []), length-append b.table.names (n ∷ []), k.in_progress);
  fits = fits-joined b n e o k j.fits;
  under = under-joined b o u k pends;
  planned = planned-joined b n e o u k j;
  left = λ t v h.
      elim (work-cases b.in_progress u t v h) [
        | inl l ↦ k.left t v l.1
        | inr l ↦ some-has (λ (x : ProgressView). 1 ≤ remaining_tasks x.progress) u v l.1 j.left
      ];
  most = λ t v h.
      elim (work-cases b.in_progress u t v h) [
        | inl l ↦ k.most t v l.1
        | inr l ↦ some-has (λ (x : ProgressView). task_count x.progress ≤ 4194304) u v l.1 j.most
      ];
}

-- ---- work that goes on

-- the plan, what it reads and its frame stay
pub record GoesOn (old new : ProgressView) : Type 0 where
  pub plan : new.progress.plan ≡ old.progress.plan
  pub tiles : new.progress.tiles ≡ old.progress.tiles
  pub input : new.input ≡ old.input
  pub tiling : new.tiling ≡ old.tiling

pub started-goes_on : (old new : ProgressView) (n : ℕ) → IsStarted old new n → GoesOn old new
started-goes_on old new n s = record {
  plan = ap (λ (p : Progress). p.plan) s.progress;
  tiles = ap (λ (p : Progress). p.tiles) s.progress;
  input = s.input;
  tiling = s.tiling;
}

pub finished-goes_on : (old new : ProgressView) (n : ℕ) (cells : List ℕ) → IsFinished old new n cells → GoesOn old new
finished-goes_on old new n cells f = record { plan = f.plan; tiles = f.tiles; input = f.input; tiling = f.tiling }

planned-on : (w : Table) (s : Submission) (old new : ProgressView) → GoesOn old new → IsPlannedOn w s old → IsPlannedOn w s new
planned-on w s old new g h =
    let r = h.input in
    record {
      input = record { image = r.image; first = r.first; shape = rw (g.tiling, g.input) r.shape; second = r.second; third = r.third };
      allowed = rw (g.plan, g.input) h.allowed;
      last = rw g.plan h.last;
    }

count-same : (old new : ProgressView) → GoesOn old new → task_count new.progress ≡ task_count old.progress
count-same old new g = rw (g.plan, g.tiles) refl

-- the book with this work under the ticket, or none
abbrev pub with_work : Book → ℕ → Option ProgressView → Book
with_work b t u = record b { in_progress = set b.in_progress t u }

set-cases : (ws : List (Option ProgressView)) (t : ℕ) (o : Option ProgressView) (k : ℕ) (v : ProgressView) → t < length ws → work_at (set ws t o) k ≡ Some v → ((k ≡ t) × (o ≡ Some v)) ⊎ (work_at ws k ≡ Some v)
set-cases ws t o k v within h =
    elim (cases_eq k t) [
      | inl e ↦ inl (e, sym (get_or-set_same ws t o None within) ∙ ap (λ i. work_at (set ws t o) i) (sym e) ∙ h)
      | inr n ↦ inr (sym (get_or-set_other ws t k o None n) ∙ h)
    ]

-- work that was taken away is not there
pub none-left : (ws : List (Option ProgressView)) (t : ℕ) → work_at (set ws t None) t ≡ None
none-left ws t =
    elim (cases_lt t (length ws)) [
      | inl l ↦ get_or-set_same ws t None None l
      | inr g ↦ get_or_past (set ws t None) t None (omega (arith, g, length-set ws t None))
    ]

-- without the work under a ticket
pub without-orderly : (b : Book) (t : ℕ) → IsOrderly b → t < length b.in_progress → IsOrderly (with_work b t None)
without-orderly b t k within =
    let was : (i : ℕ) (u : ProgressView) → work_at (set b.in_progress t None) i ≡ Some u → work_at b.in_progress i ≡ Some u
    = λ i u h. elim (set-cases b.in_progress t None i u within h) [ inl l ↦ let no = l.1 in absurd cc | inr e ↦ e ] in
    record {
      stored = k.stored;
      in_progress = length-set b.in_progress t None ∙ k.in_progress;
      fits = k.fits;
      under = λ i u h. k.under i u (was i u h);
      planned = λ i u h. k.planned i u (was i u h);
      left = λ i u h. k.left i u (was i u h);
      most = λ i u h. k.most i u (was i u h);
    }

-- with work that went on there
pub with-orderly : (b : Book) (t : ℕ) (old new : ProgressView) → IsOrderly b → t < length b.in_progress → work_at b.in_progress t ≡ Some old → GoesOn old new → 1 ≤ remaining_tasks new.progress
    → IsOrderly (with_work b t (Some new))
with-orderly b t old new k within there g left =
    let At : ℕ → Type 0 = λ i. IsPlannedAt b.table i new in
    let here : IsPlannedAt b.table t new = planned-on b.table (submission_at b.table.submissions t) old new g (k.planned t old there) in
    let most : task_count new.progress ≤ 4194304 = omega (arith, k.most t old there, count-same old new g) in
    let of : (P : ProgressView → Type 0) (v : ProgressView) → Some new ≡ Some v → P new → P v = λ P v e p. some-has P (Some new) v e p in
    record {
      stored = k.stored;
      in_progress = length-set b.in_progress t (Some new) ∙ k.in_progress;
      fits = k.fits;
      under = λ i u h.
          elim (set-cases b.in_progress t (Some new) i u within h) [
            | inl l ↦ ap (outcome_at b.table.outcomes) l.0 ∙ k.under t old there
            | inr e ↦ k.under i u e
          ];
      planned = λ i u h.
          elim (set-cases b.in_progress t (Some new) i u within h) [
            | inl l ↦ of (λ (v : ProgressView). IsPlannedAt b.table i v) u l.1 (subst At (sym l.0) here)
            | inr e ↦ k.planned i u e
          ];
      left = λ i u h.
          elim (set-cases b.in_progress t (Some new) i u within h) [
            | inl l ↦ of (λ (v : ProgressView). 1 ≤ remaining_tasks v.progress) u l.1 left
            | inr e ↦ k.left i u e
          ];
      most = λ i u h.
          elim (set-cases b.in_progress t (Some new) i u within h) [
            | inl l ↦ of (λ (v : ProgressView). task_count v.progress ≤ 4194304) u l.1 most
            | inr e ↦ k.most i u e
          ];
    }
