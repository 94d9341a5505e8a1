use Rattle.std.proofs.Common.{◌≡◌, ◌∙◌, of_z, rules, to_z, w32}
use Rattle.mw_model.specs.Flat.{hit_or_miss}
use Rattle.mw_c_arrays.specs.Arrays.{element_in_bytes, grey_in_array}
use Rattle.mw_c_calls.proofs.Answered.{answered, made_zero}
use Rattle.mw_c_calls.proofs.hits.hit_or_miss_u8.Goals as goal

pub returns-clause-made : goal.returns-clause-made
returns-clause-made c =
    let same : to_z w32 (of_z w32 c.answer_bytes.result) ≡ c.answer_bytes.result = search rules in
    let hit = element_in_bytes c.args.hit_width c.args.hit_height c.args.hit_x c.args.hit_y c.args.hit.now in
    let miss = element_in_bytes c.args.miss_width c.args.miss_height c.args.miss_x c.args.miss_y c.args.miss.now in
    made_zero c.hits.result (hit_or_miss hit miss (grey_in_array c.args.width c.args.height c.args.maxval c.args.samples.now)) c.answer_bytes.new.out (to_z w32 (of_z w32 c.answer_bytes.result))
    (same ∙ c.answer_bytes.ensures.answer) c.hits.ensures.value c.answer_bytes.ensures.made

pub returns-clause-first : goal.returns-clause-first
returns-clause-first c =
    let same : to_z w32 (of_z w32 c.answer_bytes.result) ≡ c.answer_bytes.result = search rules in
    answered _ _ c.hits.result (to_z w32 (of_z w32 c.answer_bytes.result)) (same ∙ c.answer_bytes.ensures.answer) c.hits.ensures.told
