use Rattle.std.proofs.Common.{◌≡◌, ◌∷◌, ◌++◌, ◌∙◌, [], length, length-append, map, option_map, ap, subst, sym, arith}
use Rattle.std.proofs.lemmas.List.{map-append}
use Rattle.mw_model.specs.declared.calls.LogItem.TheVariants as item
use Rattle.mw_model.specs.declared.calls.Reply.TheVariants as reply
use Rattle.mw_model.specs.Machine.{with_entry}
use Rattle.mw_model.specs.Stands.{CoreView}
use Rattle.mw_core_refusals.specs.mw_store.Entries.{submission_of, outcome_of, payload_in}
use Rattle.mw_core_ledger.specs.Books.{Book, progress_of, seen_of}
use Rattle.mw_core_ledger.specs.Counts.{AreCounts, Tally}
use Rattle.mw_core_ledger.proofs.CountLemmas.{counts-kept}
use Rattle.mw_core.proofs.BookLemmas.{counted}
use Rattle.mw_core.proofs.machine.Core.accept.Goals as goal

pub grow-requires : goal.grow-requires
grow-requires c = omega (arith, counted (seen_of c.self.inside.ledger) c.self.inside.counts c.self.invariant, ap (λ d. length d.table.names) c.self.view_is, c.requires.room)

pub add_last-requires-clause-count : goal.add_last-requires-clause-count
add_last-requires-clause-count c =
    let old = c.self.inside.ledger in
    let before : length c.self.inside.counts.ready ≡ length old.table.names = counted (seen_of old) c.self.inside.counts c.self.invariant in
    omega (arith, before, ap (λ k. length k.ready) c.in_ok-grow.ensures, length-append c.self.inside.counts.ready (0 ∷ []), ap (λ b. length b.table.names) c.in-Ok.ensures.ok, length-append old.table.names (c.args.name ∷ []))

pub invariant_of-self-in-Ok : goal.invariant_of-self-in-Ok
invariant_of-self-in-Ok c =
    c.add_last.ensures c.self.inside.ledger c.self.inside.counts c.args.call c.args.name c.args.entry c.args.progress c.accept.new.self.room c.sound.ensures c.self.invariant c.in_ok-grow.ensures c.in-Ok.ensures.ok

pub returns-in-Ok-clause-table : goal.returns-in-Ok-clause-table
returns-in-Ok-clause-table c = ap (λ (b : Book). b.table) c.in-Ok.ensures.ok ∙ ap (λ (d : CoreView). with_entry d.table c.args.name (submission_of c.args.entry) (outcome_of c.args.entry)) c.self.view_is

pub returns-in-Ok-clause-kept : goal.returns-in-Ok-clause-kept
returns-in-Ok-clause-kept c = ap (λ (b : Book). b.kept) c.in-Ok.ensures.ok ∙ ap (λ (d : CoreView). d.kept ++ payload_in c.args.entry ∷ []) c.self.view_is

pub returns-in-Ok-clause-work : goal.returns-in-Ok-clause-work
returns-in-Ok-clause-work c =
    ap (λ (b : Book). map (option_map progress_of) b.in_progress) c.in-Ok.ensures.ok
    ∙ map-append (option_map progress_of) c.self.inside.ledger.in_progress (c.args.progress ∷ [])
    ∙ ap (λ (d : CoreView). d.work ++ option_map progress_of c.args.progress ∷ []) c.self.view_is

pub returns-in-Ok-clause-log : goal.returns-in-Ok-clause-log
returns-in-Ok-clause-log c = ap (λ (b : Book). b.log) c.in-Ok.ensures.ok ∙ ap (λ (d : CoreView). d.log ++ item.Call c.args.call (reply.Accepted (length d.table.names)) ∷ []) c.self.view_is

pub returns-in-Ok-clause-side : goal.returns-in-Ok-clause-side
returns-in-Ok-clause-side c = ap (λ (b : Book). b.side) c.in-Ok.ensures.ok ∙ ap (λ (d : CoreView). d.side) c.self.view_is

pub invariant_of-self-in-Err : goal.invariant_of-self-in-Err
invariant_of-self-in-Err c =
    let is = c.in-Err.ensures.err in
    let new = c.accept.new.self in
    let back : c.shrink.new.self ≡ c.self.inside.counts = c.shrink.ensures c.self.inside.counts c.in_ok-grow.ensures in
    let Right : Tally → Type 0 = λ k. AreCounts (seen_of new) k in
    subst Right (sym back) (counts-kept c.self.inside.ledger new c.self.inside.counts (ap (λ (b : Book). b.table) is) (ap (λ (b : Book). b.in_progress) is) c.self.invariant)

pub returns-in-Err-clause-side : goal.returns-in-Err-clause-side
returns-in-Err-clause-side c = ap (λ (b : Book). b.side) c.in-Err.ensures.err ∙ ap (λ (d : CoreView). d.side) c.self.view_is

pub returns-in-Err-clause-err : goal.returns-in-Err-clause-err
returns-in-Err-clause-err c = ap seen_of c.in-Err.ensures.err ∙ c.self.view_is
