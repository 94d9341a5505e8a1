use Rattle.std.proofs.Common.{◌∙◌, map, ap, arith, refl, subst, sym}
use Rattle.std.proofs.lemmas.Result.{on_ok_weaker}
use Rattle.mw_model.specs.Pictures.{Picture, IsPicture}
use Rattle.mw_geodesic.specs.Components.{area_closing, area_opening}
use Rattle.mw_geodesic.specs.Neighbours.{neighbours_of}
use Rattle.mw_c_arrays.specs.Sources.{picture_in}
use Rattle.mw_c_arrays.proofs.SourceImages.{source_image}
use Rattle.mw_c_geodesic_levels.proofs.AreaImages.{array_picture, by_closing, by_opening, few_places, fills_sides}
use Rattle.mw_c_geodesic_levels.proofs.areas.filter_near.Goals as goal

pub open_areas-requires-clause-samples : goal.open_areas-requires-clause-samples
open_areas-requires-clause-samples g c =
    fills_sides (picture_in c.args.source) g.P.Pixel.level c.args.samples.now c.width-width.result c.height-height.result (source_image c.args.source c.requires.source).picture c.requires.samples c.width-width.ensures c.height-height.ensures

pub open_areas-requires-clause-out : goal.open_areas-requires-clause-out
open_areas-requires-clause-out g c =
    c.requires.room
    ∙ fills_sides (picture_in c.args.source) g.P.Pixel.level c.args.samples.now c.width-width.result c.height-height.result (source_image c.args.source c.requires.source).picture c.requires.samples c.width-width.ensures c.height-height.ensures

pub open_areas-requires-clause-few : goal.open_areas-requires-clause-few
open_areas-requires-clause-few g c =
    few_places (picture_in c.args.source) c.width-width.result c.height-height.result (source_image c.args.source c.requires.source) c.width-width.ensures c.height-height.ensures

pub close_areas-requires-clause-samples : goal.close_areas-requires-clause-samples
close_areas-requires-clause-samples g c =
    fills_sides (picture_in c.args.source) g.P.Pixel.level c.args.samples.now c.width-width.result c.height-height.result (source_image c.args.source c.requires.source).picture c.requires.samples c.width-width.ensures c.height-height.ensures

pub close_areas-requires-clause-out : goal.close_areas-requires-clause-out
close_areas-requires-clause-out g c =
    c.requires.room
    ∙ fills_sides (picture_in c.args.source) g.P.Pixel.level c.args.samples.now c.width-width.result c.height-height.result (source_image c.args.source c.requires.source).picture c.requires.samples c.width-width.ensures c.height-height.ensures

pub close_areas-requires-clause-few : goal.close_areas-requires-clause-few
close_areas-requires-clause-few g c =
    few_places (picture_in c.args.source) c.width-width.result c.height-height.result (source_image c.args.source c.requires.source) c.width-width.ensures c.height-height.ensures

pub close_areas-requires-clause-within : goal.close_areas-requires-clause-within
close_areas-requires-clause-within g c =
    let f = picture_in c.args.source in
    let same = array_picture f c.width-width.result c.height-height.result c.maxval-maxval.result (map g.P.Pixel.level c.args.samples.now) c.requires.kind c.width-width.ensures c.height-height.ensures c.maxval-maxval.ensures c.requires.samples in
    subst (λ (t : Picture). IsPicture t) (sym same) (source_image c.args.source c.requires.source).picture

pub returns-then-kind-eq0-clause-made : goal.returns-then-kind-eq0-clause-made
returns-then-kind-eq0-clause-made g c =
    let f = picture_in c.args.source in
    let e = neighbours_of c.args.neighbours in
    let same = array_picture f c.width-width.result c.height-height.result f.maxval (map g.P.Pixel.level c.args.samples.now) c.requires.kind c.width-width.ensures c.height-height.ensures refl c.requires.samples in
    on_ok_weaker c.open_areas.result
    (λ is. ap (λ (t : Picture). t.samples) (is ∙ ap (area_opening e c.args.numbers.1) same ∙ sym (by_opening c.args.numbers.0 c.args.numbers.1 e f (omega arith))))
    (c.open_areas.ensures.made f.maxval (subst (λ (t : Picture). IsPicture t) (sym same) (source_image c.args.source c.requires.source).picture))

pub returns-clause-made : goal.returns-clause-made
returns-clause-made g c =
    let f = picture_in c.args.source in
    let e = neighbours_of c.args.neighbours in
    let same = array_picture f c.width-width.result c.height-height.result c.maxval-maxval.result (map g.P.Pixel.level c.args.samples.now) c.requires.kind c.width-width.ensures c.height-height.ensures c.maxval-maxval.ensures c.requires.samples in
    on_ok_weaker c.close_areas.result
    (λ is. ap (λ (t : Picture). t.samples) (is ∙ ap (area_closing e c.args.numbers.1) same ∙ sym (by_closing c.args.numbers.0 c.args.numbers.1 e f (λ zero. omega arith))))
    c.close_areas.ensures.made
