use Rattle.std.proofs.Common.{◌≡◌, ◌∙◌, of_z, rules, to_z, w32}
use Rattle.mw_model.specs.Flat.{threshold}
use Rattle.mw_c_arrays.specs.Arrays.{grey_in_array}
use Rattle.mw_c_calls.proofs.Answered.{answered, kept_else, written_zero}
use Rattle.mw_c_calls.proofs.thresholds.threshold_u8.Goals as goal

pub returns-clause-made : goal.returns-clause-made
returns-clause-made c zero =
    let same : to_z w32 (of_z w32 c.answer.result) ≡ c.answer.result = search rules in
    let g = threshold c.args.k (grey_in_array c.args.width c.args.height c.args.maxval c.args.samples.now) in
    written_zero c.upper.result (to_z w32 (of_z w32 c.answer.result)) (c.upper.new.out ≡ g.samples) (same ∙ c.answer.ensures) c.upper.ensures.made zero

pub returns-clause-kept : goal.returns-clause-kept
returns-clause-kept c not_zero =
    let same : to_z w32 (of_z w32 c.answer.result) ≡ c.answer.result = search rules in
    kept_else c.upper.result (to_z w32 (of_z w32 c.answer.result)) (c.upper.new.out ≡ c.args.out.now) (same ∙ c.answer.ensures) c.upper.ensures.kept not_zero

pub returns-clause-first : goal.returns-clause-first
returns-clause-first c =
    let same : to_z w32 (of_z w32 c.answer.result) ≡ c.answer.result = search rules in
    answered _ _ c.upper.result (to_z w32 (of_z w32 c.answer.result)) (same ∙ c.answer.ensures) c.upper.ensures.told
