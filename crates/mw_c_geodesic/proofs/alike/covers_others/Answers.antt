use Rattle.std.proofs.Common.{List, subst, arith, inl, inr}
use Rattle.std.proofs.lemmas.List.{drop_all}
use Rattle.mw_model.specs.declared.offsets.Offset.{Offset}
use Rattle.mw_geodesic.specs.Neighbours.{ElementCovers}
use Rattle.mw_geodesic.proofs.Raised.{covers_first}
use Rattle.mw_c_geodesic.proofs.alike.covers_others.Goals as goal

pub loop-i-init : goal.loop-i-init
loop-i-init c = λ x y u v covers. inr covers

pub loop-i-preserved : goal.loop-i-preserved
loop-i-preserved c = λ x y u v covers. elim (c.loop-i.invariant x y u v covers) [
  | inl done ↦ inl done
  | inr rest ↦ elim (covers_first c.args.other.now c.loop-i.i _ x y u v (omega arith) rest) [
    | inl joins ↦ inl (c.covers_other.ensures c.if-not-covers_other.false x y u v joins)
    | inr more ↦ inr more
  ]
]

pub returns : goal.returns
returns c = λ same x y u v covers. elim (c.loop-i.invariant x y u v covers) [
  | inl done ↦ done
  | inr rest ↦ absurd (subst (λ (t : List Offset). ElementCovers t x y u v) (drop_all c.loop-i.i c.args.other.now (omega arith)) rest)
]
