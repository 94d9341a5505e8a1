use Rattle.std.proofs.Common.{◌∙◌, ap, sym}
use Rattle.std.proofs.lemmas.Result.{on_ok_weaker}
use Rattle.mw_model.specs.Pictures.{Picture}
use Rattle.mw_geodesic.specs.Neighbours.{neighbours_of}
use Rattle.mw_c_arrays.specs.Sources.{picture_in}
use Rattle.mw_c_geodesic_levels.proofs.AreaImages.{area_alike}
use Rattle.mw_c_geodesic_levels.proofs.areas.filter_under.Goals as goal

pub returns-in-Some-clause-made : goal.returns-in-Some-clause-made
returns-in-Some-clause-made g c =
    on_ok_weaker c.filter_near.result
    (λ is. is ∙ ap (λ (t : Picture). t.samples) (sym (area_alike c.args.numbers.0 c.args.numbers.1 c.args.around.now (neighbours_of c.in-Some.neighbours) (picture_in c.args.source) c.in-Some.ensures))) c.filter_near.ensures.made
