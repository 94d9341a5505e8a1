-- When as many tasks of a ticket are ready as before.
use Rattle.std.proofs.Common.{◌≡◌, ◌≢◌, ℕ, ◌<◌, Bool, false, nat_eq, inl, inr, List, [], ◌∷◌, length, set, Option, None, option_map, refl, sym, ap, ◌∙◌, arith}
use Rattle.std.specs.Prelude.{◌&&◌, if◌then◌else◌}
use Rattle.std.specs.Option.{option_map_or}
use Rattle.std.specs.List.{AllByRecursion, list_all, list_any}
use Rattle.std.proofs.Math.ListN.{get_or-map}
use Rattle.std.proofs.lemmas.Bool.{cases_Bool, cases_eq, eqb-false}
use Rattle.std.proofs.lemmas.List.{get_or-set_same, get_or-set_other}
use Rattle.mw_model.proofs.mw_facts.Alls.{all-weaker}
use Rattle.mw_model.proofs.mw_facts.Elements.{get_or-push_below}
use Rattle.mw_model.specs.declared.calls.Call.{Call}
use Rattle.mw_model.specs.declared.calls.Outcome.{Outcome}
use Rattle.mw_model.specs.declared.calls.Outcome.TheVariants as outcome
use Rattle.mw_model.specs.declared.names.Name.{Name}
use Rattle.mw_model.specs.Machine.{settled}
use Rattle.mw_model.specs.Refusals.{Table, no_submission, outcome_at, submission_at, is_pending, is_there}
use Rattle.mw_model.specs.Stands.{CoreView, progress_at, inputs_of, inputs_there, may_run, ready_under}
use Rattle.mw_model.specs.Tasks.{ready_tasks}
use Rattle.mw_model.specs.Values.{tickets}
use Rattle.mw_core_tasks.specs.mw_core_progress.ProgressView.{ProgressView}
use Rattle.mw_core_tasks.specs.mw_store.declared.kept.Entry.{Entry}
use Rattle.mw_core_tasks.specs.mw_store.Entries.{submission_of, outcome_of}
use Rattle.mw_core_ledger.specs.Books.{Book, IsOrderly, progress_of, seen_of, work_at}
use Rattle.mw_core_ledger.specs.Changes.{with_accepted}

-- what a core shows of the work under a ticket
pub work-seen : (b : Book) (v : ℕ) → progress_at (seen_of b).work v ≡ option_map progress_of (work_at b.in_progress v)
work-seen b v = get_or-map (option_map progress_of) b.in_progress v None

pub work-alike : (b new : Book) (v : ℕ) → work_at new.in_progress v ≡ work_at b.in_progress v → progress_at (seen_of new).work v ≡ progress_at (seen_of b).work v
work-alike b new v same = work-seen new v ∙ ap (option_map progress_of) same ∙ sym (work-seen b v)

-- work is written under another ticket
pub work-other : (b new : Book) (t v : ℕ) (x : Option ProgressView) → new.in_progress ≡ set b.in_progress t x → v ≢ t → progress_at (seen_of new).work v ≡ progress_at (seen_of b).work v
work-other b new t v x is other = work-alike b new v (ap (λ (ws : List (Option ProgressView)). work_at ws v) is ∙ get_or-set_other b.in_progress t v x None other)

-- ---- tests on inputs

all-each : (P : ℕ → Type 0) (xs : List ℕ) → ((i : ℕ) → P i) → AllByRecursion P xs
all-each P [] each = tt
all-each P (x ∷ xs) each = (each x, all-each P xs each)

all-alike : (p q : ℕ → Bool) (xs : List ℕ) → AllByRecursion (λ i. q i ≡ p i) xs → list_all q xs ≡ list_all p xs
all-alike p q [] same = refl
all-alike p q (x ∷ xs) same = ap (λ (b : Bool). b && list_all q xs) same.0 ∙ ap (λ (b : Bool). p x && b) (all-alike p q xs same.1)

none-of : (t : ℕ) (xs : List ℕ) → list_any (nat_eq t) xs ≡ false → AllByRecursion (λ i. i ≢ t) xs
none-of t [] none = tt
none-of t (x ∷ xs) none = elim (cases_Bool (nat_eq t x)) [
  | inl here ↦ absurd (let e = rw here at none in cc)
  | inr other ↦ (λ e. eqb-false t x other (sym e), none-of t xs (rw other at none))
]

-- ---- a ticket may run as before

may-run-alike : (w new : Table) (v : ℕ) → is_pending (outcome_at new.outcomes v) ≡ is_pending (outcome_at w.outcomes v) → submission_at new.submissions v ≡ submission_at w.submissions v
    → AllByRecursion (λ i. is_there (outcome_at new.outcomes i) ≡ is_there (outcome_at w.outcomes i)) (inputs_of w v) → may_run new v ≡ may_run w v
may-run-alike w new v pending submission inputs =
    let there : inputs_there new v ≡ inputs_there w v =
    ap (λ s. list_all (λ i. is_there (outcome_at new.outcomes i)) (tickets s.inputs)) submission
    ∙ all-alike (λ i. is_there (outcome_at w.outcomes i)) (λ i. is_there (outcome_at new.outcomes i)) (inputs_of w v) inputs
    in
    ap (λ (b : Bool). b && inputs_there new v) pending ∙ ap (λ (b : Bool). is_pending (outcome_at w.outcomes v) && b) there

ready-alike : (c new : CoreView) (v : ℕ) → may_run new.table v ≡ may_run c.table v → progress_at new.work v ≡ progress_at c.work v → ready_under new v ≡ ready_under c v
ready-alike c new v may work =
    ap (λ (b : Bool). if b then option_map_or ready_tasks (progress_at new.work v) 0 else 0) may
    ∙ ap (λ o. if may_run c.table v then option_map_or ready_tasks o 0 else 0) work

-- none is ready under a ticket that is not pending
ready-none : (c : CoreView) (v : ℕ) → is_pending (outcome_at c.table.outcomes v) ≡ false → ready_under c v ≡ 0
ready-none c v settled_now = ap (λ (b : Bool). if b && inputs_there c.table v then option_map_or ready_tasks (progress_at c.work v) 0 else 0) settled_now

-- ---- changes of a ledger

-- the work under another ticket has changed
pub ready-other : (b new : Book) (t v : ℕ) (x : Option ProgressView) → new.table ≡ b.table → new.in_progress ≡ set b.in_progress t x → v ≢ t → ready_under (seen_of new) v ≡ ready_under (seen_of b) v
ready-other b new t v x table in_progress other = ready-alike (seen_of b) (seen_of new) v (ap (λ (w : Table). may_run w v) table) (work-other b new t v x in_progress other)

-- an entry was added behind the ticket
pub ready-before : (b : Book) (c : Call) (n : Name) (e : Entry) (u : Option ProgressView) (room v : ℕ) → IsOrderly b → v < length b.table.names → ready_under (seen_of (with_accepted b c n e u room)) v ≡ ready_under (seen_of b) v
ready-before b c n e u room v orderly within =
    let whole = orderly.stored in
    let new = with_accepted b c n e u room in
    let outcome-same : (i : ℕ) → i < length b.table.names → outcome_at new.table.outcomes i ≡ outcome_at b.table.outcomes i =
    λ i lt. get_or-push_below b.table.outcomes (outcome_of e) outcome.Pending i (let long = whole.outcomes in omega arith)
    in
    let submission-same : submission_at new.table.submissions v ≡ submission_at b.table.submissions v =
    get_or-push_below b.table.submissions (submission_of e) no_submission v (let long = whole.submissions in omega arith)
    in
    let below = whole.inputs v (let long = whole.submissions in omega arith) in
    let inputs = all-weaker (λ (i : ℕ). i < v) (λ (i : ℕ). is_there (outcome_at new.table.outcomes i) ≡ is_there (outcome_at b.table.outcomes i)) (inputs_of b.table v) (λ i lt. ap is_there (outcome-same i (omega arith))) below in
    let work = work-alike b new v (get_or-push_below b.in_progress u None v (let long = orderly.in_progress in omega arith)) in
    ready-alike (seen_of b) (seen_of new) v (may-run-alike b.table new.table v (ap is_pending (outcome-same v within)) submission-same inputs) work

-- another ticket ends, for which this one did not wait
pub ready-apart : (b new : Book) (t v : ℕ) (o : Outcome) → new.table ≡ settled b.table t o → new.in_progress ≡ set b.in_progress t None → v ≢ t
    → (is_pending (outcome_at b.table.outcomes v) && list_any (nat_eq t) (inputs_of b.table v)) ≡ false → ready_under (seen_of new) v ≡ ready_under (seen_of b) v
ready-apart b new t v o table in_progress other apart =
    let outcomes : new.table.outcomes ≡ set b.table.outcomes t o = ap (λ (w : Table). w.outcomes) table in
    let submissions : new.table.submissions ≡ b.table.submissions = ap (λ (w : Table). w.submissions) table in
    let outcome-same : (i : ℕ) → i ≢ t → outcome_at new.table.outcomes i ≡ outcome_at b.table.outcomes i =
    λ i ne. ap (λ (os : List Outcome). outcome_at os i) outcomes ∙ get_or-set_other b.table.outcomes t i o outcome.Pending ne
    in
    elim (cases_Bool (is_pending (outcome_at b.table.outcomes v))) [
      | inl pending ↦
          let none : list_any (nat_eq t) (inputs_of b.table v) ≡ false = ap (λ (x : Bool). x && list_any (nat_eq t) (inputs_of b.table v)) (sym pending) ∙ apart in
          let inputs =
          all-weaker (λ (i : ℕ). i ≢ t) (λ (i : ℕ). is_there (outcome_at new.table.outcomes i) ≡ is_there (outcome_at b.table.outcomes i)) (inputs_of b.table v) (λ i ne. ap is_there (outcome-same i ne)) (none-of t (inputs_of b.table v) none)
          in
          ready-alike (seen_of b) (seen_of new) v
          (may-run-alike b.table new.table v (ap is_pending (outcome-same v other)) (ap (λ s. submission_at s v) submissions) inputs)
          (work-other b new t v None in_progress other)
      | inr over ↦ ready-none (seen_of new) v (ap is_pending (outcome-same v other) ∙ over) ∙ sym (ready-none (seen_of b) v over)
    ]

-- a ticket that is done is released
pub ready-released : (b new : Book) (t v : ℕ) → IsOrderly b → t < length b.table.names → outcome_at b.table.outcomes t ≡ outcome.Done → new.table ≡ settled b.table t outcome.Released → new.in_progress ≡ b.in_progress
    → ready_under (seen_of new) v ≡ ready_under (seen_of b) v
ready-released b new t v orderly within done table in_progress =
    let outcomes : new.table.outcomes ≡ set b.table.outcomes t outcome.Released = ap (λ (w : Table). w.outcomes) table in
    let submissions : new.table.submissions ≡ b.table.submissions = ap (λ (w : Table). w.submissions) table in
    let here : outcome_at new.table.outcomes t ≡ outcome.Released =
    ap (λ (os : List Outcome). outcome_at os t) outcomes ∙ get_or-set_same b.table.outcomes t outcome.Released outcome.Pending (let long = orderly.stored.outcomes in omega arith)
    in
    let others : (i : ℕ) → i ≢ t → outcome_at new.table.outcomes i ≡ outcome_at b.table.outcomes i =
    λ i ne. ap (λ (os : List Outcome). outcome_at os i) outcomes ∙ get_or-set_other b.table.outcomes t i outcome.Released outcome.Pending ne
    in
    let alike : (f : Outcome → Bool) → f outcome.Released ≡ f outcome.Done → (i : ℕ) → f (outcome_at new.table.outcomes i) ≡ f (outcome_at b.table.outcomes i) =
    λ f same i. elim (cases_eq i t) [
      | inl e ↦ ap (λ (j : ℕ). f (outcome_at new.table.outcomes j)) e ∙ ap f here ∙ same ∙ ap f (sym done) ∙ ap (λ (j : ℕ). f (outcome_at b.table.outcomes j)) (sym e)
      | inr ne ↦ ap f (others i ne)
    ]
    in
    let inputs = all-each (λ (i : ℕ). is_there (outcome_at new.table.outcomes i) ≡ is_there (outcome_at b.table.outcomes i)) (inputs_of b.table v) (alike is_there refl) in
    ready-alike (seen_of b) (seen_of new) v
    (may-run-alike b.table new.table v (alike is_pending refl v) (ap (λ s. submission_at s v) submissions) inputs)
    (ap (λ (ws : List (Option ProgressView)). progress_at (seen_of (record b { in_progress = ws })).work v) in_progress)
