use Rattle.std.proofs.Common.{◌≡◌, ◌∙◌, None, refl, rules, sym}
use Rattle.mw_c_arrays.specs.Arrays.{element_in}
use Rattle.mw_model.specs.Iterates.{restoration}
use Rattle.mw_model.specs.declared.operations.GranOp.TheVariants as gran
use Rattle.mw_model.specs.declared.operations.Op.TheVariants as op
use Rattle.mw_c_arrays.specs.Sources.{IsArrayImage, picture_in}
use Rattle.mw_c_calls.specs.Sources.{bitmap_figure}
use Rattle.mw_c_calls.proofs.Meant.{value_by, value_is}
use Rattle.mw_c_calls.proofs.Passed.{passed, room_is, where_none}
use Rattle.mw_c_calls.proofs.Sized.{restored_fills, restored_small}
use Rattle.mw_c_calls.proofs.calls.restored.Goals as goal

pub returns-clause-size : goal.returns-clause-size
returns-clause-size c =
    let none : c.refused.result ≡ None = search rules in
    let parts = passed c.number_fault-number.result c.fault-image.result c.room_fault-room.result c.fault.result (sym c.refused.ensures ∙ none) in
    let given = where_none c.fault-image.result (IsArrayImage c.args.f) parts.image c.fault-image.ensures.sound in
    let room = room_is c.args.room c.count.result (sym c.room_fault-room.ensures ∙ parts.room) ∙ c.count.ensures in
    let value = value_is c.drawn_by.result (value_by (op.Gran (gran.Restore c.name.result c.name-2.result c.args.levels)) (picture_in c.args.f) (bitmap_figure c.args.b.now)) (restoration (element_in c.args.b.now) c.args.levels (picture_in c.args.f))
    c.drawn_by.ensures.value refl in
    restored_fills c.drawn_by.result (element_in c.args.b.now) c.args.levels c.args.f c.args.room c.drawn_by.ensures.sound value given room

pub returns-clause-small : goal.returns-clause-small
returns-clause-small c =
    let value = value_is c.drawn_by.result (value_by (op.Gran (gran.Restore c.name.result c.name-2.result c.args.levels)) (picture_in c.args.f) (bitmap_figure c.args.b.now)) (restoration (element_in c.args.b.now) c.args.levels (picture_in c.args.f))
    c.drawn_by.ensures.value refl in
    restored_small c.drawn_by.result (element_in c.args.b.now) c.args.levels (picture_in c.args.f) value
