use Rattle.std.proofs.Common.{◌≡◌, ◌∙◌, None, inl, inr, length, of_z, refl, rules, subst, sym, to_z, w32, ℤ}
use Rattle.mw_c_arrays.specs.Arrays.{element_in_bytes, set_in_bytes}
use Rattle.mw_c_arrays.specs.Faults.{element_fault, pixels_fault}
use Rattle.mw_c_calls.specs.Calls.{call_fault}
use Rattle.mw_c_geodesic.specs.Regions.{IsRegionsAnswer}
use Rattle.mw_c_geodesic.proofs.RegionRows.{regions_answered, regions_counted, regions_kept, regions_uncounted, regions_zero}
use Rattle.mw_c_geodesic.proofs.region_calls.regions_set.Goals as goal

pub returns-clause-made : goal.returns-clause-made
returns-clause-made c zero =
    let same : to_z w32 (of_z w32 c.answer_regions.result) ≡ c.answer_regions.result = search rules in
    let e = element_in_bytes c.args.element_width c.args.element_height c.args.element_x c.args.element_y c.args.element.now in
    let f = set_in_bytes c.args.width c.args.height c.args.pixels.now in
    regions_zero c.regions.result e f c.args.out.now c.regions.new.out (length c.args.out.now) c.args.components.now c.answer_regions.new.components c.answer_regions.result refl
    c.regions.ensures.made c.answer_regions.ensures.short c.answer_regions.ensures.counted c.answer_regions.ensures.refused (sym same ∙ zero)

pub returns-clause-counted : goal.returns-clause-counted
returns-clause-counted c none is =
    let same : to_z w32 (of_z w32 c.answer_regions.result) ≡ c.answer_regions.result = search rules in
    let e = element_in_bytes c.args.element_width c.args.element_height c.args.element_x c.args.element_y c.args.element.now in
    let f = set_in_bytes c.args.width c.args.height c.args.pixels.now in
    regions_counted c.regions.result e f _ c.args.out.now c.regions.new.out c.args.components.now c.answer_regions.new.components c.answer_regions.result
    c.regions.ensures.made c.answer_regions.ensures.counted c.answer_regions.ensures.refused c.regions.ensures.told none (sym same ∙ is)

pub returns-clause-kept : goal.returns-clause-kept
returns-clause-kept c not_zero =
    let same : to_z w32 (of_z w32 c.answer_regions.result) ≡ c.answer_regions.result = search rules in
    let e = element_in_bytes c.args.element_width c.args.element_height c.args.element_x c.args.element_y c.args.element.now in
    let f = set_in_bytes c.args.width c.args.height c.args.pixels.now in
    regions_kept c.regions.result e f c.args.out.now c.regions.new.out (length c.args.out.now) c.answer_regions.result refl c.regions.ensures.made c.answer_regions.ensures.written c.regions.ensures.kept (λ zero. not_zero (same ∙ zero))

pub returns-clause-uncounted : goal.returns-clause-uncounted
returns-clause-uncounted c not_zero other =
    let same : to_z w32 (of_z w32 c.answer_regions.result) ≡ c.answer_regions.result = search rules in
    let e = element_in_bytes c.args.element_width c.args.element_height c.args.element_x c.args.element_y c.args.element.now in
    regions_uncounted c.regions.result e _ (length c.args.out.now) c.args.components.now c.answer_regions.new.components c.answer_regions.result
    c.answer_regions.ensures.written c.answer_regions.ensures.short c.answer_regions.ensures.refused c.regions.ensures.told (λ zero. not_zero (same ∙ zero)) (elim other [
      | inl wrong ↦ inl wrong
      | inr long ↦ inr (λ is. long (same ∙ is))
    ])

pub returns-clause-first : goal.returns-clause-first
returns-clause-first c =
    let same : to_z w32 (of_z w32 c.answer_regions.result) ≡ c.answer_regions.result = search rules in
    let e = element_in_bytes c.args.element_width c.args.element_height c.args.element_x c.args.element_y c.args.element.now in
    let first = call_fault None (pixels_fault c.args.width c.args.height c.args.pixels.now) None (element_fault c.args.element_width c.args.element_height c.args.element_x c.args.element_y c.args.element.now) in
    subst (λ (n : ℤ). IsRegionsAnswer e first (length c.args.out.now) c.answer_regions.new.components n) (sym same)
    (regions_answered c.regions.result e first (length c.args.out.now) c.args.components.now c.answer_regions.new.components c.answer_regions.result
    c.answer_regions.ensures.written c.answer_regions.ensures.short c.answer_regions.ensures.counted c.answer_regions.ensures.refused c.regions.ensures.told)
