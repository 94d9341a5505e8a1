use Rattle.std.proofs.Common.{List, refl, inl, subst, sym}
use Rattle.mw_model.specs.declared.offsets.Offset.{Offset}
use Rattle.mw_geodesic.specs.Neighbours.{IsSymmetric}
use Rattle.mw_c_geodesic.proofs.BitmapElements.{offsets_found}
use Rattle.mw_c_geodesic.proofs.measuring.measured_by.Goals as goal

pub returns-then-not-is_symmetric-clause-told : goal.returns-then-not-is_symmetric-clause-told
returns-then-not-is_symmetric-clause-told c =
    let around = c.offsets-around.result.now in
    let same = offsets_found c.args.b.now c.in-Ok.element around c.offsets-around.ensures.value c.in-Ok.ensures in
    inl (refl, λ turns. c.is_symmetric.ensures.one_way c.if-not-is_symmetric.true (subst (λ (t : List Offset). IsSymmetric t) (sym same) turns))
