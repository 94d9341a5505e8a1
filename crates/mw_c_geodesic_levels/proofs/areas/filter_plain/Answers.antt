use Rattle.std.proofs.Common.{◌∙◌, ap, subst, sym}
use Rattle.mw_model.specs.Pictures.{Picture}
use Rattle.mw_c_arrays.specs.Sources.{picture_in}
use Rattle.mw_c_geodesic_levels.proofs.AreaImages.{area_fills, area_maxval}
use Rattle.mw_c_geodesic_levels.proofs.areas.filter_plain.Goals as goal

pub put-requires-clause-stands : goal.put-requires-clause-stands
put-requires-clause-stands g c =
    subst g.P.GreyLevel.stands (sym (ap (λ (t : Picture). t.maxval) c.in_ok-made.ensures ∙ area_maxval c.args.numbers.0 c.args.numbers.1 c.args.around.now (picture_in c.args.source))) c.requires.stands

pub put-requires-clause-size : goal.put-requires-clause-size
put-requires-clause-size g c = area_fills c.args.numbers.0 c.args.numbers.1 c.args.around.now c.args.source c.in_ok-made.made _ c.requires.source c.in_ok-made.ensures c.requires.room

pub returns-clause-made : goal.returns-clause-made
returns-clause-made g c = c.put.ensures ∙ ap (λ (t : Picture). t.samples) c.in_ok-made.ensures
