use Rattle.std.proofs.Common.{◌≡◌, ◌∙◌, [], None, ap, length, map, rules, sym}
use Rattle.std.proofs.lemmas.Result.{IfOk-weaker}
use Rattle.mw_model.specs.declared.codes.Code.TheVariants as code
use Rattle.mw_model.specs.Pictures.{Picture}
use Rattle.mw_c_arrays.specs.Arrays.{element_in}
use Rattle.mw_c_arrays.specs.Sound.{IsElementBitmap}
use Rattle.mw_c_arrays.specs.Sources.{IsArrayImage, picture_in}
use Rattle.mw_c_arrays.proofs.FirstCases.{when_not-none}
use Rattle.mw_c_strips.specs.Rows.{rows_from}
use Rattle.mw_c_calls.specs.Calls.{flat_of}
use Rattle.mw_plan.specs.Steps.{operator_of}
use Rattle.mw_c_calls.proofs.OneStep.{of_eight}
use Rattle.mw_c_calls.proofs.Passed.{passed, where_none}
use Rattle.mw_c_calls.proofs.row_calls.flat_rows.Goals as goal

pub returns-clause-made : goal.returns-clause-made
returns-clause-made g c =
    let e = element_in c.args.b.now in
    let f = picture_in c.args.f in
    let first = c.args.first in
    let count = length c.args.out.now in
    let out = c.write_rows_by.new.out in
    let made = operator_of c.operation_of.result e [] f in
    let wanted = flat_of c.args.numbers.0 c.args.numbers.1 e f in
    IfOk-weaker c.write_rows_by.result (λ _. map g.P.Pixel.level out ≡ rows_from first count made) (λ _. map g.P.Pixel.level out ≡ rows_from first count wanted)
    (λ _ is. is ∙ ap (λ (p : Picture). rows_from first count p) (c.operation_of.ensures.value e [] f)) c.write_rows_by.ensures.made

pub operation_of-requires : goal.operation_of-requires
operation_of-requires g c =
    let none : c.refused.result ≡ None = search rules in
    let parts = passed c.when-number.result c.fault-image.result c.when-room.result c.fault.result (sym c.refused.ensures ∙ none) in
    let one = when_not-none c.has_one_step-one.result code.Param (sym c.when-number.ensures ∙ parts.number) in
    of_eight c.args.numbers.0 (sym c.has_one_step-one.ensures ∙ one)

pub write_rows_by-requires : goal.write_rows_by-requires
write_rows_by-requires g c =
    let none : c.refused.result ≡ None = search rules in
    let parts = passed c.when-number.result c.fault-image.result c.when-room.result c.fault.result (sym c.refused.ensures ∙ none) in
    let given = where_none c.fault-image.result (IsArrayImage c.args.f) parts.image c.fault-image.ensures.sound in
    let fits = when_not-none c.are_rows-fits.result code.Length (sym c.when-room.ensures ∙ parts.room) in
    record {
      sound = given;
      element = where_none c.fault.result (IsElementBitmap c.args.b.now) parts.element c.fault.ensures.sound;
      one = c.operation_of.ensures.one;
      alone = c.operation_of.ensures.rows ∙ sym c.has_one_step-one.ensures ∙ when_not-none c.has_one_step-one.result code.Param (sym c.when-number.ensures ∙ parts.number);
      rows = c.are_rows-fits.ensures.rows given fits;
      stands = c.requires given;
    }
