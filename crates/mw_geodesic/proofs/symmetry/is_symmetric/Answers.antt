use Rattle.std.proofs.Common.{List, subst, arith, inl, inr}
use Rattle.std.proofs.lemmas.List.{drop_all}
use Rattle.mw_model.specs.declared.offsets.Offset.{Offset}
use Rattle.mw_geodesic.specs.Neighbours.{ElementCovers}
use Rattle.mw_geodesic.proofs.Opposites.{one_way}
use Rattle.mw_geodesic.proofs.Raised.{covers_first}
use Rattle.mw_geodesic.proofs.symmetry.is_symmetric.Goals as goal

pub loop-i-init : goal.loop-i-init
loop-i-init c = λ x y u v covers. inr covers

pub loop-i-preserved : goal.loop-i-preserved
loop-i-preserved c = λ x y u v covers. elim (c.loop-i.invariant x y u v covers) [
  | inl back ↦ inl back
  | inr rest ↦ elim (covers_first c.args.element.now c.loop-i.i _ x y u v (omega arith) rest) [
    | inl joins ↦ inl (c.leads_back.ensures.back c.if-not-leads_back.false x y u v joins)
    | inr more ↦ inr more
  ]
]

pub returns-clause-symmetric : goal.returns-clause-symmetric
returns-clause-symmetric c = λ same x y u v covers. elim (c.loop-i.invariant x y u v covers) [
  | inl back ↦ back
  | inr rest ↦ absurd (subst (λ (t : List Offset). ElementCovers t x y u v) (drop_all c.loop-i.i c.args.element.now (omega arith)) rest)
]

pub returns-then-not-leads_back-clause-one_way : goal.returns-then-not-leads_back-clause-one_way
returns-then-not-leads_back-clause-one_way c = λ none. one_way c.args.element.now c.loop-i.i _ (omega arith) (c.leads_back.ensures.nowhere c.if-not-leads_back.true)
