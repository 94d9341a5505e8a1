use Rattle.std.proofs.Common.{◌≡◌, ◌∙◌, None, length, rules, sym}
use Rattle.mw_model.specs.Pictures.{IsImage}
use Rattle.mw_c_arrays.specs.Arrays.{element_in, set_picture}
use Rattle.mw_c_geodesic.proofs.Passed.{passed, room_is, where_none}
use Rattle.mw_c_geodesic.proofs.Shapes.{changed_fills, changed_small}
use Rattle.mw_c_geodesic.proofs.changing.changed.Goals as goal

pub returns-in-Ok-clause-size : goal.returns-in-Ok-clause-size
returns-in-Ok-clause-size c =
    let none : c.refused.result ≡ None = search rules in
    let parts = passed None c.fault.result c.room_fault-places.result c.fault-2.result (sym c.refused.ensures ∙ none) in
    let given = where_none c.fault.result (IsImage (set_picture c.args.f)) parts.image c.fault.ensures.sound in
    let room = room_is c.args.room (length c.args.f.pixels.now) (sym c.room_fault-places.ensures ∙ parts.room) in
    changed_fills c.args.change (element_in c.args.b.now) c.args.f c.in-Ok.made c.args.room given c.in-Ok.ensures room

pub returns-in-Ok-clause-small : goal.returns-in-Ok-clause-small
returns-in-Ok-clause-small c =
    let none : c.refused.result ≡ None = search rules in
    let parts = passed None c.fault.result c.room_fault-places.result c.fault-2.result (sym c.refused.ensures ∙ none) in
    let given = where_none c.fault.result (IsImage (set_picture c.args.f)) parts.image c.fault.ensures.sound in
    changed_small c.args.change (element_in c.args.b.now) c.args.f c.in-Ok.made given c.in-Ok.ensures
