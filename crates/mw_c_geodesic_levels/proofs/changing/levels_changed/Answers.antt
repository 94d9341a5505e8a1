use Rattle.std.proofs.Common.{◌≡◌, ◌∙◌, None, ap, length, rules, subst, sym}
use Rattle.mw_model.specs.Pictures.{Picture}
use Rattle.mw_c_arrays.specs.Arrays.{element_in}
use Rattle.mw_c_arrays.specs.Sources.{IsArrayImage}
use Rattle.mw_c_geodesic_levels.specs.Changes.{ChangeStandsIn}
use Rattle.mw_c_geodesic_levels.proofs.Changed.{change_fills, change_stands}
use Rattle.mw_c_geodesic.proofs.Passed.{passed, room_is, where_none}
use Rattle.mw_c_geodesic_levels.proofs.changing.levels_changed.Goals as goal

pub returns-in-Ok-clause-size : goal.returns-in-Ok-clause-size
returns-in-Ok-clause-size c =
    let none : c.refused.result ≡ None = search rules in
    let parts = passed c.args.number c.fault.result c.room_fault-places.result c.fault-2.result (sym c.refused.ensures ∙ none) in
    let given = where_none c.fault.result (IsArrayImage c.args.f) parts.image c.fault.ensures.sound in
    let as_many = room_is c.args.room c.count.result (sym c.room_fault-places.ensures ∙ parts.room) ∙ c.count.ensures in
    ap (λ (t : Picture). length t.samples) c.in-Ok.ensures ∙ change_fills c.args.change (element_in c.args.b.now) c.args.f c.args.room given as_many

pub returns-in-Ok-clause-levels : goal.returns-in-Ok-clause-levels
returns-in-Ok-clause-levels c =
    let none : c.refused.result ≡ None = search rules in
    let parts = passed c.args.number c.fault.result c.room_fault-places.result c.fault-2.result (sym c.refused.ensures ∙ none) in
    let given = where_none c.fault.result (IsArrayImage c.args.f) parts.image c.fault.ensures.sound in
    subst (λ (t : Picture). ChangeStandsIn c.args.change c.args.f t.maxval) (sym c.in-Ok.ensures) (change_stands c.args.change (element_in c.args.b.now) c.args.f given)
