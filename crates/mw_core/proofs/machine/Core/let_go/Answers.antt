use Rattle.std.proofs.Common.{◌≡◌, ◌<◌, ◌∷◌, ◌++◌, ◌∙◌, ℕ, [], length, Result, Ok, Err, OnOk, OnErr, ap, sym, subst}
use Rattle.std.proofs.lemmas.Result.{on_ok_weaker}
use Rattle.mw_model.specs.declared.calls.LogItem.{LogItem}
use Rattle.mw_model.specs.declared.calls.Outcome.TheVariants as outcome
use Rattle.mw_model.specs.Refusals.{outcome_at}
use Rattle.mw_model.specs.Machine.{settled}
use Rattle.mw_model.specs.Stands.{CoreView}
use Rattle.mw_core_ledger.specs.Books.{Book, IsOrderly, seen_of}
use Rattle.mw_core_ledger.specs.mw_core_laws.Rows.{IsLogFull}
use Rattle.mw_core_ledger.specs.Counts.{AreCounts, Tally}
use Rattle.mw_core_ledger.proofs.CountLemmas.{counts-released}
use Rattle.mw_core.proofs.machine.Core.let_go.Goals as goal

-- the counts of what is let go, or of what stays where there was no memory
counts-after : {A E : Type 0} → (r : Result A E) (b new : Book) (t : ℕ) (k : Tally) → IsOrderly b → AreCounts (seen_of b) k → t < length b.table.names → outcome_at b.table.outcomes t ≡ outcome.Done
    → OnOk r (new.table ≡ settled b.table t outcome.Released) → OnOk r (new.in_progress ≡ b.in_progress) → OnErr r (new ≡ b) → AreCounts (seen_of new) k
counts-after (Ok x) b new t k orderly right within done table in_progress same = counts-released b new t k orderly right within done table in_progress
counts-after (Err e) b new t k orderly right within done table in_progress same = let Right : Book → Type 0 = λ x. AreCounts (seen_of x) k in subst Right (sym same) right

pub invariant_of-self : goal.invariant_of-self
invariant_of-self c =
    let t = c.args.t in
    let shown = sym c.self.view_is in
    let Within : CoreView → Type 0 = λ d. t < length d.table.names in
    let Done : CoreView → Type 0 = λ d. outcome_at d.table.outcomes t ≡ outcome.Done in
    let got = c.let_go.ensures in
    counts-after c.let_go.result c.self.inside.ledger c.let_go.new.self t c.self.inside.counts c.sound.ensures c.self.invariant (subst Within shown c.requires.within) (subst Done shown c.requires.done) got.table got.in_progress got.err

pub returns-clause-log : goal.returns-clause-log
returns-clause-log c =
    let Was : Type 0 = c.let_go.new.self.log ≡ c.self.inside.ledger.log ++ c.short.result ∷ [] in
    on_ok_weaker {P = Was} c.let_go.result
    (λ e. e ∙ ap (λ (i : LogItem). c.self.inside.ledger.log ++ i ∷ []) c.short.ensures ∙ ap (λ (d : CoreView). d.log ++ c.args.item ∷ []) c.self.view_is) c.let_go.ensures.log

pub returns-clause-memory : goal.returns-clause-memory
returns-clause-memory c =
    let P : CoreView → Type 0 = λ d. OnErr c.let_go.result (IsLogFull d) in
    subst P c.self.view_is c.let_go.ensures.rows
