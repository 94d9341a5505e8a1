use Rattle.std.proofs.Common.{◌≡◌, ◌⊎◌, true, ◌∷◌, ◌++◌, ◌∙◌, [], ap, subst}
use Rattle.mw_core_ledger.specs.Short.{is_long}
use Rattle.mw_core_ledger.specs.mw_core_laws.Rows.{IsLogFull}
use Rattle.mw_model.specs.declared.calls.LogItem.TheVariants as item
use Rattle.mw_model.specs.Stands.{CoreView}
use Rattle.mw_core_ledger.specs.Books.{Book, seen_of}
use Rattle.mw_core_ledger.proofs.CountLemmas.{counts-kept}
use Rattle.mw_core_ledger.proofs.mw_core_laws.mw_store.PlaceLemmas.{on_err}
use Rattle.mw_core.proofs.machine.Core.note.Goals as goal

pub invariant_of-self-2 : goal.invariant_of-self-2
invariant_of-self-2 c =
    let is = c.in_ok-note.ensures.ok in
    counts-kept c.self.inside.ledger c.note.new.self c.self.inside.counts (ap (λ (b : Book). b.table) is) (ap (λ (b : Book). b.in_progress) is) c.self.invariant

pub returns-clause-ok : goal.returns-clause-ok
returns-clause-ok c = ap seen_of c.in_ok-note.ensures.ok ∙ ap (λ (d : CoreView). record d { log = d.log ++ item.Call c.args.call c.args.reply ∷ [] }) c.self.view_is

pub returns-clause-side : goal.returns-clause-side
returns-clause-side c = ap (λ (b : Book). b.side) c.in_ok-note.ensures.ok ∙ ap (λ (d : CoreView). d.side) c.self.view_is

pub returns-in_err-note-clause-memory : goal.returns-in_err-note-clause-memory
returns-in_err-note-clause-memory c =
    let P : CoreView → Type 0 = λ d. (is_long (item.Call c.args.call c.args.reply) ≡ true) ⊎ IsLogFull d in
    on_err c.from_residual.result (subst P c.self.view_is c.in_err-note.ensures.rows)
