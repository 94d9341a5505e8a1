use Rattle.std.proofs.Common.{◌≡◌, ◌∙◌, ◌++◌, ◌∷◌, ◌<◌, [], length, ap, sym, refl, subst, None}
use Rattle.mw_model.specs.declared.calls.Outcome.TheVariants as outcome
use Rattle.mw_model.specs.declared.calls.Call.TheVariants as call
use Rattle.mw_model.specs.declared.calls.Reply.TheVariants as reply
use Rattle.mw_model.specs.declared.calls.LogItem.TheVariants as item
use Rattle.mw_model.specs.Refusals.{refusal, ticket, outcome_at}
use Rattle.mw_core_refusals.specs.mw_store.Stored.{Stored}
use Rattle.mw_core_ledger.specs.mw_core_laws.Facts.{stored_of}
use Rattle.mw_core_ledger.specs.mw_core_laws.Events.{FollowsMachine}
use Rattle.mw_core_ledger.proofs.mw_core_laws.CallLemmas.{IfOk-from-one, serves-refused, serves-cancel}
use Rattle.mw_core.proofs.FaultLemmas.{short-full}
use Rattle.mw_core.proofs.machine.Core.cancel.Goals as goal

pub returns-in-Err-clause-served : goal.returns-in-Err-clause-served
returns-in-Err-clause-served c =
    let old = c.args.self.now in
    let seen = c.store.ensures ∙ ap stored_of c.self.view_is in
    let q = call.Cancel c.args.name in
    let x = c.in-Err.code in
    let why = sym (ap (λ v. refusal v.table v.kept q) seen) ∙ sym c.in-Err.ensures.code in
    IfOk-from-one c.note.result (reply.Refused x) (c.note.new.self ≡ record old { log = old.log ++ item.Call q (reply.Refused x) ∷ [] }) (FollowsMachine old q None c.note.new.self) c.note.ensures.reply c.note.ensures.ok
    (serves-refused old c.note.new.self q None x refl why)

pub returns-in-Ok-clause-served : goal.returns-in-Ok-clause-served
returns-in-Ok-clause-served c =
    let old = c.args.self.now in
    let seen = c.store.ensures ∙ ap stored_of c.self.view_is in
    let q = call.Cancel c.args.name in
    let t = c.in-Ok.t in
    let free = sym (ap (λ v. refusal v.table v.kept q) seen) ∙ sym c.in-Ok.ensures.code in
    let Within : Stored → Type 0 = λ v. t < length v.table.names in
    let Pends : Stored → Type 0 = λ v. outcome_at v.table.outcomes t ≡ outcome.Pending in
    serves-cancel old c.end.new.self c.args.name t free (c.in-Ok.ensures.ok ∙ ap (λ v. ticket v.table c.args.name) seen) c.whole.ensures.complete
    (subst Within seen c.in-Ok.ensures.within) (subst Pends seen c.in-Ok.ensures.pending) c.end.ensures.table c.end.ensures.kept c.end.ensures.work c.end.ensures.log

pub returns-in-Err-clause-full : goal.returns-in-Err-clause-full
returns-in-Err-clause-full c = short-full c.note.result _ refl c.note.ensures.memory (λ full. full)
