-- A RUN that is not refused: its inputs as a plan is told of them, and work that is fresh and means the command.
use Rattle.std.proofs.Common.{◌≡◌, ℕ, ◌<◌, ◌≤◌, ◌++◌, ◌∷◌, [], false, List, length, map, Option, Some, None, Result, Ok, Err, IfOk, OnOk, sym, ap, ◌∙◌, subst}
use Rattle.std.specs.List.{AllByRecursion}
use Rattle.mw_model.proofs.mw_facts.Elements.{get_or-push_last}
use Rattle.mw_model.specs.declared.names.Name.{Name}
use Rattle.mw_model.specs.declared.operations.Op.{Op}
use Rattle.mw_model.specs.declared.submissions.Inputs.{Inputs}
use Rattle.mw_model.specs.declared.submissions.Submission.{Submission}
use Rattle.mw_model.specs.declared.calls.Outcome.TheVariants as outcome
use Rattle.mw_model.specs.declared.calls.Call.TheVariants as call
use Rattle.mw_model.specs.declared.calls.Reply.{Reply}
use Rattle.mw_model.specs.declared.calls.Reply.TheVariants as reply
use Rattle.mw_model.specs.declared.calls.LogItem.TheVariants as item
use Rattle.mw_model.specs.Values.{Value, tickets}
use Rattle.mw_model.specs.Refusals.{Table, Wanted, AnImage, AnElement, first_of, inputs_wanted, is_dead, name_taken, no_room, op_cases, outcome_at, refusal, wanted_case}
use Rattle.mw_model.specs.Machine.{with_entry, run_submission}
use Rattle.mw_model.specs.Tasks.{Progress, remaining_tasks, running_tasks, task_count}
use Rattle.mw_model.specs.Stands.{CoreView, progress_at}
use Rattle.mw_core_refusals.specs.mw_plan.declared.inputs.Input.{Input}
use Rattle.mw_core_refusals.specs.mw_plan.Tables.{IsInputOf}
use Rattle.mw_core_refusals.specs.Found.{AreFound, IsFoundWanted, IsNothing}
use Rattle.mw_core_refusals.proofs.mw_model_laws.RunTables.{first_none, inputs_all, wanted_alive}
use Rattle.mw_core_ledger.specs.mw_core_progress.ProgressView.{ProgressView}
use Rattle.mw_core_refusals.specs.mw_store.Stored.{Stored}
use Rattle.mw_core_ledger.specs.mw_core_laws.Facts.{IsComplete, stored_of}
use Rattle.mw_core_ledger.specs.mw_core_laws.Limits.{ShapesFit}
use Rattle.mw_core_ledger.specs.mw_core_laws.Events.{FollowsMachine, IsFresh}
use Rattle.mw_core_ledger.proofs.mw_core_laws.CallLemmas.{serves-run}
use Rattle.mw_core_ledger.specs.mw_core_tasks.Planning.{IsLookedUp, IsPlannedBy}
use Rattle.mw_core_ledger.proofs.mw_core_tasks.FreshLemmas.{planned-fresh, planned-work}

-- ---- what is found of the inputs

looked-up : (s : Stored) (x : Wanted) (t : Option ℕ) (i : Input) → IsFoundWanted s x t i → IsLookedUp s.table s.kept t i
looked-up s (AnImage n) None i f = absurd f
looked-up s (AnElement n) None i f = absurd f
looked-up s (AnImage n) (Some t) i f = record { told = f.0.told; absent = λ is. absurd cc }
looked-up s (AnElement n) (Some t) i f = record { told = f.0.told; absent = λ is. absurd cc }

none-looked-up : (s : Stored) (t : Option ℕ) (i : Input) → IsNothing t i → IsLookedUp s.table s.kept t i
none-looked-up s t i f = let P : Option ℕ → Type 0 = λ x. IsInputOf s.table s.kept x i in record { told = subst P (sym f.0) tt; absent = λ is. f.1 }

-- each input is what a plan is told of its ticket
pub record AreLookedUp (s : Stored) (at : Inputs) (a b c : Input) : Type 0 where
  pub first : IsLookedUp s.table s.kept at.a a
  pub second : IsLookedUp s.table s.kept at.b b
  pub third : IsLookedUp s.table s.kept at.c c

all-looked-up : (s : Stored) (wanted : List Wanted) (at : Inputs) (a b c : Input) → AreFound s wanted at a b c → AreLookedUp s at a b c
all-looked-up s [] at a b c f = record { first = none-looked-up s at.a a f.0; second = none-looked-up s at.b b f.1; third = none-looked-up s at.c c f.2 }
all-looked-up s (x ∷ []) at a b c f = record { first = looked-up s x at.a a f.0; second = none-looked-up s at.b b f.1; third = none-looked-up s at.c c f.2 }
all-looked-up s (x ∷ y ∷ []) at a b c f = record { first = looked-up s x at.a a f.0; second = looked-up s y at.b b f.1; third = none-looked-up s at.c c f.2 }
all-looked-up s (x ∷ y ∷ z ∷ more) at a b c f = record { first = looked-up s x at.a a f.0; second = looked-up s y at.b b f.1; third = looked-up s z at.c c f.2 }

pub looked-up-seen : (c : CoreView) (s again : Stored) (wanted : List Wanted) (at : Inputs) (i j k : Input) → s ≡ stored_of c → again ≡ stored_of c → AreFound s wanted at i j k → AreLookedUp again at i j k
looked-up-seen c s again wanted at i j k seen seen_again are =
    let P : Stored → Type 0 = λ x. AreFound x wanted at i j k in
    all-looked-up again wanted at i j k (subst P (seen ∙ sym seen_again) are)

-- ---- the work of an accepted command

pub serves-planned : (c new : CoreView) (n : Name) (o : Op) (side : ℕ) (u : ProgressView) → refusal c.table c.kept (call.Run n o) ≡ None → IsPlannedBy c.table c.kept o (run_submission c.table o) side u → IsComplete c
    → new.table ≡ with_entry c.table n (run_submission c.table o) outcome.Pending → new.kept ≡ c.kept ++ None ∷ [] → new.work ≡ c.work ++ Some u.progress ∷ []
    → new.log ≡ c.log ++ item.Call (call.Run n o) (reply.Accepted (length c.table.names)) ∷ [] → FollowsMachine c (call.Run n o) None new (reply.Accepted (length c.table.names))
serves-planned c new n o side u free planned whole = serves-run c new n o u.progress free (λ m st clear. planned-work c m n o side u st free clear planned) whole

-- counts of tasks of which none was started
abbrev pub AreFresh : Progress → Type 0
AreFresh p = (1 ≤ remaining_tasks p) × (task_count p ≤ 4194304) × (remaining_tasks p ≡ task_count p) × (running_tasks p ≡ 0)

-- the work of the entry that was added is that of fresh work
pub added-fresh : (c new : CoreView) (p : Progress) (t : ℕ) → IsComplete c → AreFresh p → new.work ≡ c.work ++ Some p ∷ [] → reply.Accepted (length c.table.names) ≡ reply.Accepted t → IsFresh new t
added-fresh c new p t whole fresh work is =
    let at : length c.work ≡ t = whole.work ∙ cc in
    let Few : ℕ → Type 0 = λ n. n ≤ 4194304 in
    record {
      progress = p;
      work = ap (λ ws. progress_at ws t) work ∙ get_or-push_last c.work (Some p) None t (sym at);
      some = fresh.0;
      bounded = subst Few (sym fresh.2) fresh.1;
      unfinished = fresh.2;
      idle = fresh.3;
    }

-- of an answer: where it is an acceptance the entry is fresh
pub accepted-fresh : {E : Type 0} → (r : Result Reply E) (c new : CoreView) (p : Progress) (t : ℕ) → IsComplete c → AreFresh p → IfOk r (λ y. y ≡ reply.Accepted (length c.table.names)) → OnOk r (new.work ≡ c.work ++ Some p ∷ [])
    → IfOk r (λ y. y ≡ reply.Accepted t → IsFresh new t)
accepted-fresh (Ok y) c new p t whole fresh told work = λ is. added-fresh c new p t whole fresh work (sym told ∙ is)
accepted-fresh (Err e) c new p t whole fresh told work = tt

-- ---- what is told of a store, of what the core shows of it

pub planned-seen : (c : CoreView) (s : Stored) (o : Op) (e : Submission) (side : ℕ) (u : ProgressView) → s ≡ stored_of c → e ≡ run_submission c.table o → IsPlannedBy s.table s.kept o e side u → IsPlannedBy c.table c.kept o (run_submission c.table o) side u
planned-seen c s o e side u seen is planned =
    let On : Stored → Type 0 = λ x. IsPlannedBy x.table x.kept o e side u in
    let Of : Submission → Type 0 = λ x. IsPlannedBy c.table c.kept o x side u in
    subst Of is (subst On seen planned)

pub fresh-seen : (c : CoreView) (s again : Stored) (o : Op) (e : Submission) (side : ℕ) (u : ProgressView) → ShapesFit c.table → s ≡ stored_of c → again ≡ stored_of c → AllByRecursion (λ i. i < length s.table.names) (tickets e.inputs)
    → IsPlannedBy again.table again.kept o e side u → AreFresh u.progress
fresh-seen c s again o e side u fits seen seen_again below planned =
    let Below : Stored → Type 0 = λ x. AllByRecursion (λ i. i < length x.table.names) (tickets e.inputs) in
    let On : Stored → Type 0 = λ x. IsPlannedBy x.table x.kept o e side u in
    planned-fresh c.table c.kept o e side u fits (subst Below seen below) (subst On seen_again planned)

-- no input of a command that is accepted is dead
pub accepted-alive : (w : Table) (kept : List (Option Value)) (n : Name) (o : Op) → refusal w kept (call.Run n o) ≡ None → AllByRecursion (λ i. is_dead (outcome_at w.outcomes i) ≡ false) (tickets (run_submission w o).inputs)
accepted-alive w kept n o r =
    let x = first_none (name_taken w n) _ r in
    let y = first_none (no_room w) (first_of (map (wanted_case w) (inputs_wanted o)) ∷ first_of (op_cases w kept o) ∷ []) x.1 in
    let z = first_none (first_of (map (wanted_case w) (inputs_wanted o))) (first_of (op_cases w kept o) ∷ []) y.1 in
    inputs_all w (λ i. is_dead (outcome_at w.outcomes i) ≡ false) (inputs_wanted o) (wanted_alive w) z.0
