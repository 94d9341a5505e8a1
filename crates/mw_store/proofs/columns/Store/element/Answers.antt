use Rattle.std.proofs.Common.{◌<◌, length, subst, sym}
use Rattle.mw_model.specs.Refusals.{outcome_at, submission_at}
use Rattle.mw_model.specs.Values.{value_at}
use Rattle.mw_store.specs.Stored.{Stored, KeepsElement}
use Rattle.mw_store.proofs.columns.Store.element.Goals as goal

pub returns-in-Some-Element-clause-kept : goal.returns-in-Some-Element-clause-kept
returns-in-Some-Element-clause-kept c =
    let t = c.args.t in
    let within : t < length c.self.inside.names.keys = let R : Stored → Type 0 = λ s. t < length s.table.names in subst R (sym c.self.view_is) c.requires in
    let R : Stored → Type 0 = λ s. KeepsElement (submission_at s.table.submissions t) (outcome_at s.table.outcomes t) (value_at s.kept t) in
    subst R c.self.view_is (c.self.invariant.0.elements t within)

pub returns-in_default-clause-kept : goal.returns-in_default-clause-kept
returns-in_default-clause-kept c =
    let t = c.args.t in
    let within : t < length c.self.inside.names.keys = let R : Stored → Type 0 = λ s. t < length s.table.names in subst R (sym c.self.view_is) c.requires in
    let R : Stored → Type 0 = λ s. KeepsElement (submission_at s.table.submissions t) (outcome_at s.table.outcomes t) (value_at s.kept t) in
    subst R c.self.view_is (c.self.invariant.0.elements t within)
