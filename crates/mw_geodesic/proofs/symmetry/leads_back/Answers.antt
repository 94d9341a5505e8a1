use Rattle.std.proofs.Common.{List, subst, arith, inl, inr}
use Rattle.std.proofs.lemmas.List.{drop_all}
use Rattle.mw_model.specs.declared.offsets.Offset.{Offset}
use Rattle.mw_geodesic.specs.Neighbours.{ElementCovers}
use Rattle.mw_geodesic.proofs.Raised.{covers_at, covers_first}
use Rattle.mw_geodesic.proofs.symmetry.leads_back.Goals as goal

pub loop-i-init : goal.loop-i-init
loop-i-init c = λ x y u v joins covers. covers

pub loop-i-preserved : goal.loop-i-preserved
loop-i-preserved c = λ x y u v joins covers. elim (covers_first c.args.element.now c.loop-i.i _ u v x y (omega arith) (c.loop-i.invariant x y u v joins covers)) [
  | inl back ↦ absurd (c.is_opposite.ensures.other c.if-is_opposite.false x y u v joins back)
  | inr rest ↦ rest
]

pub returns-then-is_opposite-clause-back : goal.returns-then-is_opposite-clause-back
returns-then-is_opposite-clause-back c =
    λ same x y u v joins. covers_at c.args.element.now c.loop-i.i _ u v x y (omega arith) (c.is_opposite.ensures.opposite c.if-is_opposite.true x y u v joins)

pub returns-clause-nowhere : goal.returns-clause-nowhere
returns-clause-nowhere c =
    λ none x y u v joins covers. absurd (subst (λ (t : List Offset). ElementCovers t u v x y) (drop_all c.loop-i.i c.args.element.now (omega arith)) (c.loop-i.invariant x y u v joins covers))
