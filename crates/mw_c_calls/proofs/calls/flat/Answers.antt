use Rattle.std.proofs.Common.{◌≡◌, ◌∙◌, [], None, ap, length, map, rules, sym}
use Rattle.std.proofs.lemmas.Result.{IfOk-weaker}
use Rattle.mw_model.specs.Pictures.{Picture}
use Rattle.mw_c_arrays.specs.Arrays.{element_in}
use Rattle.mw_c_arrays.specs.Sound.{IsElementBitmap}
use Rattle.mw_c_arrays.specs.Sources.{IsArrayImage, picture_in}
use Rattle.mw_c_calls.specs.Calls.{flat_of}
use Rattle.mw_plan.specs.Steps.{operator_of}
use Rattle.mw_c_calls.proofs.Passed.{passed, room_is, where_none}
use Rattle.mw_c_calls.proofs.calls.flat.Goals as goal

pub returns-clause-made : goal.returns-clause-made
returns-clause-made g c =
    let e = element_in c.args.b.now in
    let f = picture_in c.args.f in
    let made = operator_of c.operation_of.result e [] f in
    let wanted = flat_of c.args.numbers.0 c.args.numbers.1 e f in
    IfOk-weaker c.write_by.result (λ _. map g.P.Pixel.level c.write_by.new.out ≡ made.samples) (λ _. map g.P.Pixel.level c.write_by.new.out ≡ wanted.samples)
    (λ _ is. is ∙ ap (λ (p : Picture). p.samples) (c.operation_of.ensures.value e [] f)) c.write_by.ensures.made

pub write_by-requires : goal.write_by-requires
write_by-requires g c =
    let none : c.refused.result ≡ None = search rules in
    let parts = passed c.when-number.result c.fault-image.result c.room_fault-room.result c.fault.result (sym c.refused.ensures ∙ none) in
    let given = where_none c.fault-image.result (IsArrayImage c.args.f) parts.image c.fault-image.ensures.sound in
    record {
      sound = given;
      one = c.operation_of.ensures.one;
      element = where_none c.fault.result (IsElementBitmap c.args.b.now) parts.element c.fault.ensures.sound;
      room = room_is (length c.args.out.now) c.count.result (sym c.room_fault-room.ensures ∙ parts.room) ∙ c.count.ensures;
      stands = c.requires given;
    }
