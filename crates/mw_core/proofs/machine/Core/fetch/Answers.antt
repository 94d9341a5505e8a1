use Rattle.std.proofs.Common.{◌≡◌, ◌∙◌, false, true, inl, inr, sym, ap}
use Rattle.mw_model.specs.declared.calls.Call.TheVariants as call
use Rattle.mw_model.specs.Machine.{reply_from}
use Rattle.mw_core_ledger.specs.mw_core_laws.Facts.{stored_of}
use Rattle.mw_core_ledger.proofs.mw_core_laws.CallLemmas.{serves-fetch}
use Rattle.mw_core.proofs.FetchLemmas.{fetched-value, fetched-shown}
use Rattle.mw_core_ledger.proofs.mw_core_laws.mw_store.PlaceLemmas.{on_err}
use Rattle.mw_core.proofs.machine.Core.fetch.Goals as goal

pub returns-clause-served : goal.returns-clause-served
returns-clause-served c =
    let old = c.args.self.now in
    let seen = c.store.ensures ∙ ap stored_of c.self.view_is in
    let q = call.Fetch c.args.name in
    let r = c.fetch_reply-reply.result in
    let told = c.fetch_reply-reply.ensures.value ∙ ap (λ v. reply_from v.table v.kept q) seen in
    serves-fetch old c.note.new.self c.args.name r told c.in_ok-note.ensures.ok

pub returns-clause-value : goal.returns-clause-value
returns-clause-value c = λ m s.
    let seen = c.store.ensures ∙ ap stored_of c.self.view_is in
    let q = call.Fetch c.args.name in
    let told = c.fetch_reply-reply.ensures.value ∙ ap (λ v. reply_from v.table v.kept q) seen in
    fetched-value c.args.self.now m c.args.name c.fetch_reply-reply.result c.in_ok-value.value s told c.in_ok-value.ensures.shown

pub returns-clause-shown : goal.returns-clause-shown
returns-clause-shown c = λ m s.
    let seen = c.store.ensures ∙ ap stored_of c.self.view_is in
    let q = call.Fetch c.args.name in
    let told = c.fetch_reply-reply.ensures.value ∙ ap (λ v. reply_from v.table v.kept q) seen in
    fetched-shown c.args.self.now m c.args.name c.fetch_reply-reply.result c.in_ok-value.value s told c.in_ok-value.ensures.shown

pub returns-in_err-value-clause-full : goal.returns-in_err-value-clause-full
returns-in_err-value-clause-full c =
    let seen = c.store.ensures ∙ ap stored_of c.self.view_is in
    let q = call.Fetch c.args.name in
    let told = c.fetch_reply-reply.ensures.value ∙ ap (λ v. reply_from v.table v.kept q) seen in
    let some = c.in_err-value.ensures.memory in
    on_err c.from_residual.result (inr (some.0, sym told ∙ some.1))

pub returns-in_err-note-clause-full : goal.returns-in_err-note-clause-full
returns-in_err-note-clause-full c = on_err c.from_residual-in_err-note.result (inl (elim c.in_err-note.ensures.memory [ inl long ↦ let no : false ≡ true = long in absurd cc | inr full ↦ full ]))
