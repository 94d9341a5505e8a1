use Rattle.mw_model.proofs.ImagePlaces.{sample_bounded}
use Rattle.mw_model.proofs.Covers.{greatest_below}
use Rattle.mw_reference.proofs.flat.greatest_under.Goals as goal

pub redraw-requires : goal.redraw-requires
redraw-requires c =
    let f = c.args.image.now in
    record { bounded = λ picture x y p q. greatest_below f c.args.element.now x y f.maxval (λ u v p' q' covers. sample_bounded f picture u v p' q') }
