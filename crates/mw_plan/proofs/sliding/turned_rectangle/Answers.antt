use Rattle.mw_plan.proofs.Boxes.{near_box}
use Rattle.mw_plan.proofs.sliding.turned_rectangle.Goals as goal

pub turned-requires : goal.turned-requires
turned-requires c = near_box c.in_ok-offsets.offsets c.args.element.now c.offsets-figure.ensures.figure c.in_ok-offsets.ensures.some
