use Rattle.std.proofs.Common.{◌≡◌, subst, IfOk}
use Rattle.mw_model.specs.Pictures.{Picture}
use Rattle.mw_model.proofs.ImagePlaces.{redrawn_itself}
use Rattle.mw_reference.proofs.iterated.copy.Goals as goal

pub returns : goal.returns
returns c =
    let same = redrawn_itself c.args.image.now c.is_small.ensures.picture.size in
    subst (λ (t : Picture). IfOk c.redraw.result (λ r. r ≡ t)) same c.redraw.ensures
