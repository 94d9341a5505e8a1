use Rattle.std.proofs.Common.{◌≡◌, ◌∙◌, ◌++◌, ◌∷◌, [], length, ap, sym, refl, subst, Some, None, false}
use Rattle.std.specs.List.{AllByRecursion}
use Rattle.mw_model.specs.declared.submissions.Submission.{Submission}
use Rattle.mw_model.specs.declared.calls.Outcome.TheVariants as outcome
use Rattle.mw_model.specs.declared.calls.Call.TheVariants as call
use Rattle.mw_model.specs.declared.calls.Reply.TheVariants as reply
use Rattle.mw_model.specs.declared.calls.LogItem.TheVariants as item
use Rattle.mw_model.specs.Values.{tickets}
use Rattle.mw_model.specs.Refusals.{inputs_wanted, is_dead, outcome_at, refusal}
use Rattle.mw_model.specs.Machine.{with_entry, run_submission}
use Rattle.mw_core_refusals.specs.mw_store.Stored.{Stored}
use Rattle.mw_core_ledger.specs.mw_core_laws.Facts.{stored_of}
use Rattle.mw_core_ledger.specs.mw_core_laws.Limits.{FitsLimits}
use Rattle.mw_core_ledger.specs.mw_core_laws.Events.{FollowsMachine}
use Rattle.mw_core_ledger.proofs.mw_core_laws.CallLemmas.{IfOk-from-one, IfOk-from-four, serves-refused}
use Rattle.mw_core_ledger.proofs.mw_core_laws.LimitLemmas.{accepted-fits}
use Rattle.mw_core.proofs.RunLemmas.{accepted-alive, looked-up-seen, serves-planned, accepted-fresh, planned-seen, fresh-seen}
use Rattle.mw_core.proofs.machine.Core.run.Goals as goal

pub returns-in-Err-clause-served : goal.returns-in-Err-clause-served
returns-in-Err-clause-served c =
    let old = c.args.self.now in
    let seen = c.store.ensures ∙ ap stored_of c.self.view_is in
    let q = call.Run c.args.name c.args.op in
    let x = c.in-Err.code in
    let why = sym (ap (λ v. refusal v.table v.kept q) seen) ∙ sym c.in-Err.ensures.code in
    IfOk-from-one c.note.result (reply.Refused x) (c.note.new.self ≡ record old { log = old.log ++ item.Call q (reply.Refused x) ∷ [] }) (FollowsMachine old q None c.note.new.self) c.note.ensures.reply c.note.ensures.ok
    (serves-refused old c.note.new.self q None x refl why)

pub planned-requires-clause-accepted : goal.planned-requires-clause-accepted
planned-requires-clause-accepted c =
    let seen = c.store.ensures ∙ ap stored_of c.self.view_is in
    let again = c.store-store.ensures ∙ ap stored_of c.self.view_is in
    let P : Stored → Type 0 = λ v. refusal v.table v.kept (call.Run c.args.name c.args.op) ≡ None in
    subst P (seen ∙ sym again) (sym c.in-Ok.ensures.code)

pub planned-requires-clause-first : goal.planned-requires-clause-first
planned-requires-clause-first c =
    let seen = c.store.ensures ∙ ap stored_of c.self.view_is in
    let again = c.store-store.ensures ∙ ap stored_of c.self.view_is in
    let r = c.in-Ok.found in
    (looked-up-seen c.args.self.now c.store.result.now c.store-store.result.now (inputs_wanted c.args.op) r.submission.inputs r.a r.b r.c seen again c.in-Ok.ensures.inputs).first

pub planned-requires-clause-second : goal.planned-requires-clause-second
planned-requires-clause-second c =
    let seen = c.store.ensures ∙ ap stored_of c.self.view_is in
    let again = c.store-store.ensures ∙ ap stored_of c.self.view_is in
    let r = c.in-Ok.found in
    (looked-up-seen c.args.self.now c.store.result.now c.store-store.result.now (inputs_wanted c.args.op) r.submission.inputs r.a r.b r.c seen again c.in-Ok.ensures.inputs).second

pub planned-requires-clause-third : goal.planned-requires-clause-third
planned-requires-clause-third c =
    let seen = c.store.ensures ∙ ap stored_of c.self.view_is in
    let again = c.store-store.ensures ∙ ap stored_of c.self.view_is in
    let r = c.in-Ok.found in
    (looked-up-seen c.args.self.now c.store.result.now c.store-store.result.now (inputs_wanted c.args.op) r.submission.inputs r.a r.b r.c seen again c.in-Ok.ensures.inputs).third

pub accept-requires-clause-fits : goal.accept-requires-clause-fits
accept-requires-clause-fits c =
    let old = c.args.self.now in
    let seen = c.store.ensures ∙ ap stored_of c.self.view_is in
    let q = call.Run c.args.name c.args.op in
    let is = c.in-Ok.ensures.submission ∙ ap (λ v. run_submission v.table c.args.op) seen in
    let free = sym (ap (λ v. refusal v.table v.kept q) seen) ∙ sym c.in-Ok.ensures.code in
    let Fit : Submission → Type 0 = λ e. FitsLimits e.shape in
    subst Fit (sym is) (accepted-fits old.table old.kept c.args.name c.args.op c.whole.ensures.fits free)

pub accept-requires-clause-alive : goal.accept-requires-clause-alive
accept-requires-clause-alive c =
    let old = c.args.self.now in
    let seen = c.store.ensures ∙ ap stored_of c.self.view_is in
    let q = call.Run c.args.name c.args.op in
    let is = c.in-Ok.ensures.submission ∙ ap (λ v. run_submission v.table c.args.op) seen in
    let free = sym (ap (λ v. refusal v.table v.kept q) seen) ∙ sym c.in-Ok.ensures.code in
    let Alive : Submission → Type 0 = λ e. AllByRecursion (λ i. is_dead (outcome_at old.table.outcomes i) ≡ false) (tickets e.inputs) in
    subst Alive (sym is) (accepted-alive old.table old.kept c.args.name c.args.op free)

pub accept-requires-clause-left : goal.accept-requires-clause-left
accept-requires-clause-left c =
    let seen = c.store.ensures ∙ ap stored_of c.self.view_is in
    let again = c.store-store.ensures ∙ ap stored_of c.self.view_is in
    (fresh-seen c.args.self.now c.store.result.now c.store-store.result.now c.args.op c.in-Ok.found.submission c.side-side.result c.in_ok-progress-in-Ok.progress c.whole.ensures.fits seen again c.in-Ok.ensures.below c.in_ok-progress-in-Ok.ensures.planned).0

pub accept-requires-clause-most : goal.accept-requires-clause-most
accept-requires-clause-most c =
    let seen = c.store.ensures ∙ ap stored_of c.self.view_is in
    let again = c.store-store.ensures ∙ ap stored_of c.self.view_is in
    (fresh-seen c.args.self.now c.store.result.now c.store-store.result.now c.args.op c.in-Ok.found.submission c.side-side.result c.in_ok-progress-in-Ok.progress c.whole.ensures.fits seen again c.in-Ok.ensures.below c.in_ok-progress-in-Ok.ensures.planned).1

pub returns-in_ok-progress-in-Ok-clause-served : goal.returns-in_ok-progress-in-Ok-clause-served
returns-in_ok-progress-in-Ok-clause-served c =
    let old = c.args.self.now in
    let new = c.accept.new.self in
    let seen = c.store.ensures ∙ ap stored_of c.self.view_is in
    let again = c.store-store.ensures ∙ ap stored_of c.self.view_is in
    let q = call.Run c.args.name c.args.op in
    let e = c.in-Ok.found.submission in
    let u = c.in_ok-progress-in-Ok.progress in
    let is : e ≡ run_submission old.table c.args.op = c.in-Ok.ensures.submission ∙ ap (λ v. run_submission v.table c.args.op) seen in
    let free = sym (ap (λ v. refusal v.table v.kept q) seen) ∙ sym c.in-Ok.ensures.code in
    let planned = planned-seen old c.store-store.result.now c.args.op e c.side-side.result u again is c.in_ok-progress-in-Ok.ensures.planned in
    IfOk-from-four c.accept.result (reply.Accepted (length old.table.names)) (new.table ≡ with_entry old.table c.args.name e outcome.Pending) (new.kept ≡ old.kept ++ None ∷ [])
    (new.work ≡ old.work ++ Some u.progress ∷ []) (new.log ≡ old.log ++ item.Call q (reply.Accepted (length old.table.names)) ∷ []) (FollowsMachine old q None new)
    c.accept.ensures.reply c.accept.ensures.table c.accept.ensures.kept c.accept.ensures.work c.accept.ensures.log
    (λ table kept work log. serves-planned old new c.args.name c.args.op c.side-side.result u free planned c.whole.ensures.complete
    (table ∙ ap (λ s. with_entry old.table c.args.name s outcome.Pending) is) kept work log)

pub returns-in_ok-progress-in-Ok-clause-fresh : goal.returns-in_ok-progress-in-Ok-clause-fresh
returns-in_ok-progress-in-Ok-clause-fresh c = λ t.
    let old = c.args.self.now in
    let u = c.in_ok-progress-in-Ok.progress in
    let seen = c.store.ensures ∙ ap stored_of c.self.view_is in
    let again = c.store-store.ensures ∙ ap stored_of c.self.view_is in
    let fresh = fresh-seen old c.store.result.now c.store-store.result.now c.args.op c.in-Ok.found.submission c.side-side.result u c.whole.ensures.fits seen again c.in-Ok.ensures.below c.in_ok-progress-in-Ok.ensures.planned in
    accepted-fresh c.accept.result old c.accept.new.self u.progress t c.whole.ensures.complete fresh c.accept.ensures.reply c.accept.ensures.work
