use Rattle.std.proofs.Common.{◌∙◌, List, refl, ap, inl, subst, sym}
use Rattle.mw_model.specs.declared.offsets.Offset.{Offset}
use Rattle.mw_geodesic.specs.Neighbours.{IsSymmetric}
use Rattle.mw_c_arrays.specs.Sources.{picture_in}
use Rattle.mw_c_geodesic.proofs.BitmapElements.{offsets_found}
use Rattle.mw_c_geodesic_levels.specs.Areas.{area_filtered}
use Rattle.mw_c_geodesic_levels.proofs.areas.filter_by.Goals as goal

pub returns-then-not-is_symmetric-clause-told : goal.returns-then-not-is_symmetric-clause-told
returns-then-not-is_symmetric-clause-told g c =
    let around = c.offsets-around.result.now in
    let same = offsets_found c.args.b.now c.in-Ok.element around c.offsets-around.ensures.value c.in-Ok.ensures in
    inl (refl, λ turns. c.is_symmetric.ensures.one_way c.if-not-is_symmetric.true (subst (λ (t : List Offset). IsSymmetric t) (sym same) turns))

pub returns-in-Ok-filter_under-clause-made : goal.returns-in-Ok-filter_under-clause-made
returns-in-Ok-filter_under-clause-made g c =
    let around = c.offsets-around.result.now in
    let same = offsets_found c.args.b.now c.in-Ok.element around c.offsets-around.ensures.value c.in-Ok.ensures in
    c.in-Ok-filter_under.ensures.made ∙ ap (λ (t : List Offset). (area_filtered c.args.numbers.0 t c.args.numbers.1 (picture_in c.args.source)).samples) same
