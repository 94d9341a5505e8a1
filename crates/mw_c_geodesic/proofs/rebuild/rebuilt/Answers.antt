use Rattle.std.proofs.Common.{◌≡◌, ◌∙◌, None, rules}
use Rattle.mw_model.specs.Laws.{SameShape}
use Rattle.mw_c_arrays.specs.Arrays.{element_in}
use Rattle.mw_c_arrays.specs.Sound.{IsElementBitmap}
use Rattle.mw_c_arrays.specs.Sources.{IsArrayImage, picture_in}
use Rattle.mw_c_geodesic.proofs.Passed.{where_none}
use Rattle.mw_c_geodesic.proofs.RebuildPassed.{rebuild_passed_by}
use Rattle.mw_c_geodesic.proofs.Shapes.{method_fills, method_levels}
use Rattle.mw_c_geodesic.proofs.rebuild.rebuilt.Goals as goal

pub rebuilt_with-requires : goal.rebuilt_with-requires
rebuilt_with-requires c =
    let f = picture_in c.args.marker in
    let g = picture_in c.args.mask in
    let none : c.in_order.result ≡ None = search rules in
    let parts = rebuild_passed_by c.when-number.result c.fault-marker_fault.result c.fault-mask_fault.result c.first_of-images.result c.first_of-rest.result c.fault-element_fault.result c.room_fault-places.result c.frame_fault-frame.result c.levels_fault-levels.result c.in_order.result
    f.width f.height g.width g.height f.maxval g.maxval c.args.room c.count.result none c.in_order.ensures c.first_of-images.ensures c.frame_fault-frame.ensures c.levels_fault-levels.ensures c.first_of-rest.ensures c.room_fault-places.ensures in
    record {
      marker = where_none c.fault-marker_fault.result (IsArrayImage c.args.marker) parts.marker c.fault-marker_fault.ensures.sound;
      mask = where_none c.fault-mask_fault.result (IsArrayImage c.args.mask) parts.mask c.fault-mask_fault.ensures.sound;
      shape = record { kind = c.requires; width = parts.width; height = parts.height; maxval = parts.maxval };
      element = where_none c.fault-element_fault.result (IsElementBitmap c.args.b.now) parts.element c.fault-element_fault.ensures.sound;
    }

pub returns-in-Ok-clause-size : goal.returns-in-Ok-clause-size
returns-in-Ok-clause-size c =
    let f = picture_in c.args.marker in
    let g = picture_in c.args.mask in
    let none : c.in_order.result ≡ None = search rules in
    let parts = rebuild_passed_by c.when-number.result c.fault-marker_fault.result c.fault-mask_fault.result c.first_of-images.result c.first_of-rest.result c.fault-element_fault.result c.room_fault-places.result c.frame_fault-frame.result c.levels_fault-levels.result c.in_order.result
    f.width f.height g.width g.height f.maxval g.maxval c.args.room c.count.result none c.in_order.ensures c.first_of-images.ensures c.frame_fault-frame.ensures c.levels_fault-levels.ensures c.first_of-rest.ensures c.room_fault-places.ensures in
    let shape : SameShape f g = record { kind = c.requires; width = parts.width; height = parts.height; maxval = parts.maxval } in
    method_fills c.args.method (element_in c.args.b.now) c.args.mask c.args.marker c.in-Ok.made c.args.room (where_none c.fault-mask_fault.result (IsArrayImage c.args.mask) parts.mask c.fault-mask_fault.ensures.sound)
    (where_none c.fault-marker_fault.result (IsArrayImage c.args.marker) parts.marker c.fault-marker_fault.ensures.sound) shape c.in-Ok.ensures (parts.room ∙ c.count.ensures)

pub returns-in-Ok-clause-levels : goal.returns-in-Ok-clause-levels
returns-in-Ok-clause-levels c =
    let f = picture_in c.args.marker in
    let g = picture_in c.args.mask in
    let none : c.in_order.result ≡ None = search rules in
    let parts = rebuild_passed_by c.when-number.result c.fault-marker_fault.result c.fault-mask_fault.result c.first_of-images.result c.first_of-rest.result c.fault-element_fault.result c.room_fault-places.result c.frame_fault-frame.result c.levels_fault-levels.result c.in_order.result
    f.width f.height g.width g.height f.maxval g.maxval c.args.room c.count.result none c.in_order.ensures c.first_of-images.ensures c.frame_fault-frame.ensures c.levels_fault-levels.ensures c.first_of-rest.ensures c.room_fault-places.ensures in
    let shape : SameShape f g = record { kind = c.requires; width = parts.width; height = parts.height; maxval = parts.maxval } in
    method_levels c.args.method (element_in c.args.b.now) c.args.mask c.args.marker c.in-Ok.made (where_none c.fault-mask_fault.result (IsArrayImage c.args.mask) parts.mask c.fault-mask_fault.ensures.sound)
    (where_none c.fault-marker_fault.result (IsArrayImage c.args.marker) parts.marker c.fault-marker_fault.ensures.sound) shape c.in-Ok.ensures
