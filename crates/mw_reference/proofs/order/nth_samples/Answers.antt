use Rattle.mw_reference.proofs.Ranks.{nth_bounded}
use Rattle.mw_reference.proofs.order.nth_samples.Goals as goal

pub redraw-requires : goal.redraw-requires
redraw-requires c = record { bounded = nth_bounded c.args.image.now c.args.element.now c.args.k }
