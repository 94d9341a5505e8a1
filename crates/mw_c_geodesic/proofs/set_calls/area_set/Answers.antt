use Rattle.std.proofs.Common.{◌≡◌, ◌∙◌, of_z, rules, to_z, w32}
use Rattle.mw_c_arrays.specs.Arrays.{element_in_bytes}
use Rattle.mw_c_geodesic.proofs.Answered.{kept_else, made_zero, symmetric_answered}
use Rattle.mw_c_geodesic.proofs.set_calls.area_set.Goals as goal

pub returns-clause-made : goal.returns-clause-made
returns-clause-made c zero =
    let same : to_z w32 (of_z w32 c.answer.result) ≡ c.answer.result = search rules in
    made_zero c.large.result _ (to_z w32 (of_z w32 c.answer.result)) (same ∙ c.answer.ensures) c.large.ensures.made zero

pub returns-clause-kept : goal.returns-clause-kept
returns-clause-kept c not_zero =
    let same : to_z w32 (of_z w32 c.answer.result) ≡ c.answer.result = search rules in
    kept_else c.large.result (to_z w32 (of_z w32 c.answer.result)) (c.large.new.out ≡ c.args.out.now) (same ∙ c.answer.ensures) c.large.ensures.kept not_zero

pub returns-clause-first : goal.returns-clause-first
returns-clause-first c =
    let same : to_z w32 (of_z w32 c.answer.result) ≡ c.answer.result = search rules in
    let e = element_in_bytes c.args.element_width c.args.element_height c.args.element_x c.args.element_y c.args.element.now in
    symmetric_answered e _ c.large.result (to_z w32 (of_z w32 c.answer.result)) (same ∙ c.answer.ensures) c.large.ensures.told
