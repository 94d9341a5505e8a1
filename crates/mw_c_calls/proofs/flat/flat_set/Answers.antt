use Rattle.std.proofs.Common.{◌≡◌, ◌∙◌, map, of_z, rules, sym, to_z, w32, arith}
use Rattle.mw_c_arrays.specs.Arrays.{element_in_bytes, set_in_bytes}
use Rattle.std.proofs.lemmas.List.{map-id}
use Rattle.mw_c_calls.specs.Calls.{flat_of}
use Rattle.mw_c_calls.proofs.Answered.{answered, kept_else, written_zero}
use Rattle.mw_c_calls.proofs.flat.flat_set.Goals as goal

pub flat-requires : goal.flat-requires
flat-requires c = λ is. omega arith

pub returns-clause-made : goal.returns-clause-made
returns-clause-made c zero =
    let same : to_z w32 (of_z w32 c.answer.result) ≡ c.answer.result = search rules in
    let e = element_in_bytes c.args.element_width c.args.element_height c.args.element_x c.args.element_y c.args.element.now in
    let g = flat_of c.args.operation c.args.k e (set_in_bytes c.args.width c.args.height c.args.pixels.now) in
    sym (map-id c.flat.new.out)
    ∙ written_zero c.flat.result (to_z w32 (of_z w32 c.answer.result)) (map (λ s. s) c.flat.new.out ≡ g.samples) (same ∙ c.answer.ensures) c.flat.ensures.made zero

pub returns-clause-kept : goal.returns-clause-kept
returns-clause-kept c not_zero =
    let same : to_z w32 (of_z w32 c.answer.result) ≡ c.answer.result = search rules in
    kept_else c.flat.result (to_z w32 (of_z w32 c.answer.result)) (c.flat.new.out ≡ c.args.out.now) (same ∙ c.answer.ensures) c.flat.ensures.kept not_zero

pub returns-clause-first : goal.returns-clause-first
returns-clause-first c =
    let same : to_z w32 (of_z w32 c.answer.result) ≡ c.answer.result = search rules in
    answered _ _ c.flat.result (to_z w32 (of_z w32 c.answer.result)) (same ∙ c.answer.ensures) c.flat.ensures.told
