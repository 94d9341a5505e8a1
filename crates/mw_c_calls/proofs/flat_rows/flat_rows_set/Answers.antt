use Rattle.std.proofs.Common.{◌≡◌, ◌∙◌, length, map, of_z, rules, sym, to_z, w32, arith}
use Rattle.mw_c_arrays.specs.Arrays.{element_in_bytes, set_in_bytes}
use Rattle.std.proofs.lemmas.List.{map-id}
use Rattle.mw_c_strips.specs.Rows.{rows_from}
use Rattle.mw_c_calls.specs.Calls.{flat_of}
use Rattle.mw_c_calls.proofs.Answered.{answered, kept_else, written_zero}
use Rattle.mw_c_calls.proofs.flat_rows.flat_rows_set.Goals as goal

pub flat_rows-requires : goal.flat_rows-requires
flat_rows-requires c = λ is. omega arith

pub returns-clause-made : goal.returns-clause-made
returns-clause-made c zero =
    let same : to_z w32 (of_z w32 c.answer.result) ≡ c.answer.result = search rules in
    let e = element_in_bytes c.args.element_width c.args.element_height c.args.element_x c.args.element_y c.args.element.now in
    let rows = rows_from c.args.first_row (length c.args.out.now) (flat_of c.args.operation c.args.k e (set_in_bytes c.args.width c.args.height c.args.pixels.now)) in
    sym (map-id c.flat_rows.new.out)
    ∙ written_zero c.flat_rows.result (to_z w32 (of_z w32 c.answer.result)) (map (λ s. s) c.flat_rows.new.out ≡ rows) (same ∙ c.answer.ensures) c.flat_rows.ensures.made zero

pub returns-clause-kept : goal.returns-clause-kept
returns-clause-kept c not_zero =
    let same : to_z w32 (of_z w32 c.answer.result) ≡ c.answer.result = search rules in
    kept_else c.flat_rows.result (to_z w32 (of_z w32 c.answer.result)) (c.flat_rows.new.out ≡ c.args.out.now) (same ∙ c.answer.ensures) c.flat_rows.ensures.kept not_zero

pub returns-clause-first : goal.returns-clause-first
returns-clause-first c =
    let same : to_z w32 (of_z w32 c.answer.result) ≡ c.answer.result = search rules in
    answered _ _ c.flat_rows.result (to_z w32 (of_z w32 c.answer.result)) (same ∙ c.answer.ensures) c.flat_rows.ensures.told
