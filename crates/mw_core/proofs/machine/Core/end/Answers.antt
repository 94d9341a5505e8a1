use Rattle.std.proofs.Common.{◌∷◌, ◌++◌, ◌∙◌, [], length, ap, sym, arith}
use Rattle.mw_model.specs.declared.calls.LogItem.{LogItem}
use Rattle.mw_model.specs.Machine.{killed}
use Rattle.mw_model.specs.Stands.{CoreView, is_wanted}
use Rattle.mw_core_refusals.specs.mw_store.Stored.{Stored}
use Rattle.mw_core_ledger.specs.Books.{seen_of}
use Rattle.mw_core.proofs.BookLemmas.{counted}
use Rattle.mw_core.proofs.machine.Core.end.Goals as goal

pub count_dead-requires-clause-within : goal.count_dead-requires-clause-within
unfolding killed
count_dead-requires-clause-within c = omega (arith, c.requires.within, ap (λ (d : CoreView). length d.table.names) c.self.view_is, ap (λ w. length w.names) c.end.ensures.table)

pub count_dead-requires-clause-count : goal.count_dead-requires-clause-count
unfolding killed
count_dead-requires-clause-count c = counted (seen_of c.self.inside.ledger) c.self.inside.counts c.self.invariant ∙ sym (ap (λ w. length w.names) c.end.ensures.table)

pub invariant_of-self : goal.invariant_of-self
invariant_of-self c =
    let b = c.self.inside.ledger in
    let wanted = c.is_wanted-wanted.ensures ∙ ap (λ (s : Stored). is_wanted s.table c.args.t) c.store.ensures in
    c.count_dead.ensures b c.args.cause c.sound.ensures c.self.invariant wanted c.end.ensures.alone c.end.ensures.own c.running_of-was.ensures.value

pub returns-clause-log : goal.returns-clause-log
returns-clause-log c = c.end.ensures.log ∙ ap (λ (i : LogItem). c.self.inside.ledger.log ++ i ∷ []) c.short.ensures ∙ ap (λ (d : CoreView). d.log ++ c.args.item ∷ []) c.self.view_is
