use Rattle.std.proofs.Common.{◌∙◌, List, ap, refl, inl, subst, sym}
use Rattle.mw_model.specs.declared.offsets.Offset.{Offset}
use Rattle.mw_geodesic.specs.Neighbours.{IsSymmetric}
use Rattle.mw_geodesic.specs.Components.{large_components}
use Rattle.mw_c_arrays.specs.Arrays.{set_picture}
use Rattle.mw_c_geodesic.proofs.BitmapElements.{offsets_found}
use Rattle.mw_c_geodesic.proofs.area.large_by.Goals as goal

pub returns-then-not-is_symmetric-clause-told : goal.returns-then-not-is_symmetric-clause-told
returns-then-not-is_symmetric-clause-told c =
    let around = c.offsets-around.result.now in
    let same = offsets_found c.args.b.now c.in-Ok.element around c.offsets-around.ensures.value c.in-Ok.ensures in
    inl (refl, λ turns. c.is_symmetric.ensures.one_way c.if-not-is_symmetric.true (subst (λ (t : List Offset). IsSymmetric t) (sym same) turns))

pub returns-in-Ok-large_under-clause-made : goal.returns-in-Ok-large_under-clause-made
returns-in-Ok-large_under-clause-made c =
    let around = c.offsets-around.result.now in
    let same = offsets_found c.args.b.now c.in-Ok.element around c.offsets-around.ensures.value c.in-Ok.ensures in
    c.in-Ok-large_under.ensures.made ∙ ap (λ (t : List Offset). (large_components t c.args.least (set_picture c.args.f)).samples) same
