use Rattle.std.proofs.Common.{◌≡◌, ◌∙◌, ◌++◌, ◌∷◌, [], ap, refl, None}
use Rattle.mw_model.specs.declared.calls.Call.TheVariants as call
use Rattle.mw_model.specs.declared.calls.LogItem.TheVariants as item
use Rattle.mw_model.specs.Machine.{reply_from}
use Rattle.mw_core_ledger.specs.mw_core_laws.Facts.{stored_of}
use Rattle.mw_core_ledger.specs.mw_core_laws.Events.{FollowsMachine}
use Rattle.mw_core_ledger.proofs.mw_core_laws.CallLemmas.{IfOk-from-one, serves-status}
use Rattle.mw_core.proofs.FaultLemmas.{short-full}
use Rattle.mw_core.proofs.machine.Core.status.Goals as goal

pub returns-clause-served : goal.returns-clause-served
returns-clause-served c =
    let old = c.args.self.now in
    let seen = c.store.ensures ∙ ap stored_of c.self.view_is in
    let q = call.Status c.args.name in
    let r = c.status_reply-reply.result in
    let told = c.status_reply-reply.ensures ∙ ap (λ v. reply_from v.table v.kept q) seen in
    IfOk-from-one c.note.result r (c.note.new.self ≡ record old { log = old.log ++ item.Call q r ∷ [] }) (FollowsMachine old q None c.note.new.self) c.note.ensures.reply c.note.ensures.ok
    (serves-status old c.note.new.self c.args.name r told)

pub returns-clause-full : goal.returns-clause-full
returns-clause-full c = short-full c.note.result _ refl c.note.ensures.memory (λ full. full)
