use Rattle.std.proofs.Common.{◌≡◌, ◌∙◌, of_z, rules, to_z, w32}
use Rattle.mw_geodesic_distances.specs.Metrics.{metric_distance}
use Rattle.mw_c_arrays.specs.Arrays.{set_in_bytes}
use Rattle.mw_c_geodesic.specs.DistanceCalls.{metric_of}
use Rattle.mw_c_geodesic.proofs.Answered.{code_answered, kept_else}
use Rattle.mw_c_geodesic.proofs.DistanceSizes.{numbers_zero}
use Rattle.mw_c_geodesic.proofs.distance_calls.distance_set.Goals as goal

pub returns-clause-made : goal.returns-clause-made
returns-clause-made c zero =
    let same : to_z w32 (of_z w32 c.answer_numbers.result) ≡ c.answer_numbers.result = search rules in
    let wanted = (metric_distance (metric_of c.args.metric) c.args.top (set_in_bytes c.args.width c.args.height c.args.pixels.now)).samples in
    numbers_zero (λ r. r.items) c.distances.result wanted c.answer_numbers.new.out (to_z w32 (of_z w32 c.answer_numbers.result)) (same ∙ c.answer_numbers.ensures.answer) c.distances.ensures.value c.answer_numbers.ensures.made zero

pub returns-clause-kept : goal.returns-clause-kept
returns-clause-kept c not_zero =
    let same : to_z w32 (of_z w32 c.answer_numbers.result) ≡ c.answer_numbers.result = search rules in
    kept_else c.distances.result (to_z w32 (of_z w32 c.answer_numbers.result)) (c.answer_numbers.new.out ≡ c.args.out.now) (same ∙ c.answer_numbers.ensures.answer) c.answer_numbers.ensures.kept not_zero

pub returns-clause-first : goal.returns-clause-first
returns-clause-first c =
    let same : to_z w32 (of_z w32 c.answer_numbers.result) ≡ c.answer_numbers.result = search rules in
    code_answered _ c.distances.result (to_z w32 (of_z w32 c.answer_numbers.result)) (same ∙ c.answer_numbers.ensures.answer) c.distances.ensures.told
