use Rattle.std.proofs.Common.{◌≡◌, ◌∙◌, of_z, rules, to_z, w32}
use Rattle.mw_c_arrays.specs.Arrays.{element_in_bytes, set_in_bytes}
use Rattle.mw_c_geodesic.proofs.Answered.{kept_else, labels_zero, symmetric_answered}
use Rattle.mw_c_geodesic.proofs.label_calls.label_set.Goals as goal

pub returns-clause-made : goal.returns-clause-made
returns-clause-made c zero =
    let same : to_z w32 (of_z w32 c.answer_count.result) ≡ c.answer_count.result = search rules in
    let e = element_in_bytes c.args.element_width c.args.element_height c.args.element_x c.args.element_y c.args.element.now in
    let f = set_in_bytes c.args.width c.args.height c.args.pixels.now in
    labels_zero c.labels.result e f c.labels.new.out c.answer_count.new.components (to_z w32 (of_z w32 c.answer_count.result)) (same ∙ c.answer_count.ensures.answer) c.labels.ensures.made c.answer_count.ensures.made zero

pub returns-clause-kept : goal.returns-clause-kept
returns-clause-kept c not_zero =
    let same : to_z w32 (of_z w32 c.answer_count.result) ≡ c.answer_count.result = search rules in
    let answer = to_z w32 (of_z w32 c.answer_count.result) in
    (kept_else c.labels.result answer _ (same ∙ c.answer_count.ensures.answer) c.labels.ensures.kept not_zero, kept_else c.labels.result answer _ (same ∙ c.answer_count.ensures.answer) c.answer_count.ensures.kept not_zero)

pub returns-clause-first : goal.returns-clause-first
returns-clause-first c =
    let same : to_z w32 (of_z w32 c.answer_count.result) ≡ c.answer_count.result = search rules in
    let e = element_in_bytes c.args.element_width c.args.element_height c.args.element_x c.args.element_y c.args.element.now in
    symmetric_answered e _ c.labels.result (to_z w32 (of_z w32 c.answer_count.result)) (same ∙ c.answer_count.ensures.answer) c.labels.ensures.told
