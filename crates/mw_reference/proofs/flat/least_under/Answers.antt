use Rattle.mw_model.specs.Flat.{under}
use Rattle.mw_model.proofs.Covers.{least_at_most}
use Rattle.mw_reference.proofs.flat.least_under.Goals as goal

pub redraw-requires : goal.redraw-requires
redraw-requires c =
    let f = c.args.image.now in
    record { bounded = λ picture x y p q. least_at_most f.maxval (under f c.args.element.now x y) }
