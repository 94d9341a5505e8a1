use Rattle.std.proofs.Common.{◌≡◌, ◌∙◌, ◌++◌, ◌∷◌, [], length, ap, sym, refl, subst, inl, inr, Some, None, IfOk}
use Rattle.mw_model.specs.declared.shapes.Shape.{Shape}
use Rattle.mw_model.specs.declared.calls.Outcome.TheVariants as outcome
use Rattle.mw_model.specs.declared.calls.Given.TheVariants as given
use Rattle.mw_model.specs.declared.calls.Call.TheVariants as call
use Rattle.mw_model.specs.declared.calls.Reply.TheVariants as reply
use Rattle.mw_model.specs.declared.calls.LogItem.TheVariants as item
use Rattle.mw_model.specs.Values.{ElementValue, shape_of_figure}
use Rattle.mw_model.specs.Refusals.{refusal}
use Rattle.mw_model.specs.Machine.{with_entry, given_submission}
use Rattle.mw_model.specs.Lines.{AskElement}
use Rattle.mw_model.specs.Scripts.{refused_unread}
use Rattle.mw_core_refusals.specs.mw_store.Stored.{Stored}
use Rattle.mw_core_ledger.specs.mw_core_laws.Facts.{stored_of}
use Rattle.mw_core_ledger.specs.mw_core_laws.Events.{FollowsMachine}
use Rattle.mw_core_ledger.proofs.mw_core_laws.CallLemmas.{IfOk-from-one, IfOk-from-four, serves-refused, serves-element}
use Rattle.mw_core_ledger.proofs.mw_core_laws.mw_store.PlaceLemmas.{on_err}
use Rattle.mw_core.proofs.FaultLemmas.{none-before-none, short-full}
use Rattle.mw_core.proofs.machine.Core.load_element.Goals as goal

pub returns-in-Err-clause-served : goal.returns-in-Err-clause-served
returns-in-Err-clause-served c =
    let old = c.args.self.now in
    let seen = c.store.ensures ∙ ap stored_of c.self.view_is in
    let new = c.note.new.self in
    let v = c.args.element in
    let q = call.Element c.args.name (given.Good c.shape.result) in
    let x = c.in-Err.code in
    let why = sym (ap (λ d. refusal d.table d.kept q) seen) ∙ sym c.in-Err.ensures.element in
    let P : Shape → Type 0 = λ s. IfOk c.note.result (FollowsMachine old (call.Element c.args.name (given.Good s)) (Some (ElementValue v)) new) in
    subst P c.shape.ensures
    (IfOk-from-one c.note.result (reply.Refused x) (new ≡ record old { log = old.log ++ item.Call q (reply.Refused x) ∷ [] }) (FollowsMachine old q (Some (ElementValue v)) new)
    c.note.ensures.reply c.note.ensures.ok (serves-refused old new q (Some (ElementValue v)) x (v, refl, c.offsets-offsets.ensures.figure, c.shape.ensures) why))

pub returns-in-Ok-clause-served : goal.returns-in-Ok-clause-served
returns-in-Ok-clause-served c =
    let old = c.args.self.now in
    let seen = c.store.ensures ∙ ap stored_of c.self.view_is in
    let new = c.accept.new.self in
    let v = c.args.element in
    let n = c.args.name in
    let s = shape_of_figure v in
    let q = call.Element n (given.Good c.shape.result) in
    let accepted = reply.Accepted (length old.table.names) in
    let free = ap (λ d. refusal old.table old.kept (call.Element n (given.Good d))) (sym c.shape.ensures) ∙ sym (ap (λ d. refusal d.table d.kept q) seen) ∙ sym c.in-Ok.ensures.element in
    IfOk-from-four c.accept.result accepted (new.table ≡ with_entry old.table n (given_submission (given.Good s)) outcome.Done) (new.kept ≡ old.kept ++ Some (ElementValue v) ∷ [])
    (new.work ≡ old.work ++ None ∷ []) (new.log ≡ old.log ++ item.Call q accepted ∷ []) (FollowsMachine old (call.Element n (given.Good s)) (Some (ElementValue v)) new)
    c.accept.ensures.reply c.accept.ensures.table c.accept.ensures.kept c.accept.ensures.work c.accept.ensures.log
    (λ table kept work log. serves-element old new n v c.offsets-offsets.ensures.figure free c.whole.ensures.complete table kept work
    (log ∙ ap (λ d. old.log ++ item.Call (call.Element n (given.Good d)) accepted ∷ []) c.shape.ensures))

pub returns-in-Err-clause-first : goal.returns-in-Err-clause-first
returns-in-Err-clause-first c = short-full c.note.result _ refl c.note.ensures.memory (λ full. inl full)

pub returns-in-Ok-clause-first : goal.returns-in-Ok-clause-first
returns-in-Ok-clause-first c =
    let seen = c.store.ensures ∙ ap stored_of c.self.view_is in
    let P : Stored → Type 0 = λ d. refused_unread d.table (AskElement c.args.name 0 0 []) ≡ None in
    on_err c.accept.result (inr (subst P seen (none-before-none _ _ c.in-Ok.ensures.element)))
