use Rattle.std.proofs.Common.{◌∙◌, ap, sym}
use Rattle.std.proofs.lemmas.Result.{on_ok_weaker}
use Rattle.mw_model.specs.Pictures.{Picture}
use Rattle.mw_geodesic.specs.Neighbours.{neighbours_of}
use Rattle.mw_c_arrays.specs.Arrays.{set_picture}
use Rattle.mw_c_geodesic.proofs.Shapes.{large_alike}
use Rattle.mw_c_geodesic.proofs.area.large_under.Goals as goal

pub returns-in-Some-clause-made : goal.returns-in-Some-clause-made
returns-in-Some-clause-made c =
    on_ok_weaker c.large_near.result
    (λ is. is ∙ ap (λ (t : Picture). t.samples) (sym (large_alike c.args.least c.args.around.now (neighbours_of c.in-Some.neighbours) (set_picture c.args.f) c.in-Some.ensures))) c.large_near.ensures.made
