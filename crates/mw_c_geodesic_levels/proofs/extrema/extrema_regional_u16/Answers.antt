use Rattle.std.proofs.Common.{◌≡◌, ◌∙◌, of_z, rules, to_z, w32}
use Rattle.mw_c_arrays.specs.Arrays.{element_in_bytes, grey_in_array}
use Rattle.mw_c_geodesic_levels.specs.Changes.{regional_extrema}
use Rattle.mw_c_geodesic.proofs.Answered.{code_answered, image_zero, kept_else}
use Rattle.mw_c_geodesic_levels.proofs.extrema.extrema_regional_u16.Goals as goal

pub returns-clause-made : goal.returns-clause-made
returns-clause-made c zero =
    let same : to_z w32 (of_z w32 c.answer_bytes.result) ≡ c.answer_bytes.result = search rules in
    let e = element_in_bytes c.args.element_width c.args.element_height c.args.element_x c.args.element_y c.args.element.now in
    image_zero c.regional-made.result (regional_extrema c.args.kind e (grey_in_array c.args.width c.args.height c.args.maxval c.args.samples.now)) c.answer_bytes.new.out (to_z w32 (of_z w32 c.answer_bytes.result)) (same ∙ c.answer_bytes.ensures.answer) c.regional-made.ensures.value c.answer_bytes.ensures.made zero

pub returns-clause-kept : goal.returns-clause-kept
returns-clause-kept c not_zero =
    let same : to_z w32 (of_z w32 c.answer_bytes.result) ≡ c.answer_bytes.result = search rules in
    kept_else c.regional-made.result (to_z w32 (of_z w32 c.answer_bytes.result)) (c.answer_bytes.new.out ≡ c.args.out.now) (same ∙ c.answer_bytes.ensures.answer) c.answer_bytes.ensures.kept not_zero

pub returns-clause-first : goal.returns-clause-first
returns-clause-first c =
    let same : to_z w32 (of_z w32 c.answer_bytes.result) ≡ c.answer_bytes.result = search rules in
    code_answered _ c.regional-made.result (to_z w32 (of_z w32 c.answer_bytes.result)) (same ∙ c.answer_bytes.ensures.answer) c.regional-made.ensures.told
