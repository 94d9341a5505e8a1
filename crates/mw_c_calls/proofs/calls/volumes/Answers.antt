use Rattle.std.proofs.Common.{◌≡◌, ◌∙◌, ◌+◌, None, refl, rules, sym}
use Rattle.mw_c_arrays.specs.Arrays.{element_in}
use Rattle.mw_model.specs.Iterates.{spectrum}
use Rattle.mw_model.specs.declared.operations.GranOp.TheVariants as gran
use Rattle.mw_model.specs.declared.operations.Op.TheVariants as op
use Rattle.mw_c_arrays.specs.Sources.{picture_in}
use Rattle.mw_c_calls.specs.Sources.{bitmap_figure}
use Rattle.mw_c_calls.proofs.Meant.{measure_is, value_by}
use Rattle.mw_c_calls.proofs.Passed.{passed, room_is}
use Rattle.mw_c_calls.proofs.Sized.{volumes_fill}
use Rattle.mw_c_calls.proofs.calls.volumes.Goals as goal

pub returns-clause-size : goal.returns-clause-size
returns-clause-size c =
    let none : c.refused.result ≡ None = search rules in
    let parts = passed c.number_fault-number.result c.fault-image.result c.room_fault-room.result c.fault.result (sym c.refused.ensures ∙ none) in
    let value = measure_is c.measured_by.result (value_by (op.Gran (gran.Spectrum c.name.result c.name-2.result c.args.levels)) (picture_in c.args.f) (bitmap_figure c.args.b.now)) (spectrum (element_in c.args.b.now) c.args.levels (picture_in c.args.f))
    c.measured_by.ensures.value refl in
    volumes_fill c.measured_by.result (element_in c.args.b.now) c.args.levels (picture_in c.args.f) c.args.room value (room_is c.args.room (c.args.levels + 1) (sym c.room_fault-room.ensures ∙ parts.room))
