use Rattle.std.proofs.Common.{◌≡◌, ◌∙◌, ◌<◌, List, length, map, set, Option, Some, option_map, ap, sym, subst}
use Rattle.std.specs.List.{AllByRecursion}
use Rattle.std.proofs.lemmas.List.{map-set}
use Rattle.mw_model.specs.declared.calls.Outcome.TheVariants as outcome
use Rattle.mw_model.specs.Values.{Value}
use Rattle.mw_model.specs.Refusals.{Table, outcome_at}
use Rattle.mw_store.specs.Kept.{kept_value}
use Rattle.mw_store.specs.Stored.{DropsSpent, Stored}
use Rattle.mw_store.proofs.Tracking.{value-tracked}
use Rattle.mw_store.proofs.columns.Store.settle.Goals as goal

pub invariant_of-self : goal.invariant_of-self
invariant_of-self c =
    let a = c.self.inside in
    let w : Table = record { names = a.names.keys; submissions = a.submissions.items; outcomes = a.outcomes.items } in
    let s : Stored = record { table = w; kept = map (option_map kept_value) a.kept.items } in
    let t = c.args.t in
    let was : outcome_at a.outcomes.items t ≡ outcome.Pending = let R : Stored → Type 0 = λ s. outcome_at s.table.outcomes t ≡ outcome.Pending in subst R (sym c.self.view_is) c.requires.pending in
    rw (map-set (option_map kept_value) a.kept.items t (Some c.args.value)) (value-tracked s a.wanted.items a.waiting.items a.pending t (Some (kept_value c.args.value)) c.self.invariant.0 was, c.self.invariant.1)

pub returns-clause-kept : goal.returns-clause-kept
returns-clause-kept c =
    let t = c.args.t in
    let P : List (Option Value) → Type 0 = λ ks. DropsSpent c.leave.new.self.table ks c.leave.new.self.kept in
    let shown = ap (λ (s : Stored). set s.kept t (Some (kept_value c.args.value))) c.self.view_is in
    subst P (map-set (option_map kept_value) c.self.inside.kept.items t (Some c.args.value) ∙ shown) c.leave.ensures.kept

pub returns-clause-below : goal.returns-clause-below
returns-clause-below c =
    let P : Stored → Type 0 = λ s. AllByRecursion (λ u. u < length s.table.names) c.leave.result in
    subst P c.self.view_is c.leave.ensures.below
