use Rattle.std.specs.Arc.{arc_value}
use Rattle.mw_gran.proofs.plans.skeleton_by.Goals as goal

pub returns : goal.returns
returns c = c.skeleton.ensures (arc_value c.args.element.now).offsets c.in_ok-steps.ensures
