use Rattle.std.specs.Arc.{arc_value}
use Rattle.mw_gran.proofs.plans.restoration_by.Goals as goal

pub returns : goal.returns
returns c = c.restoration.ensures (arc_value c.args.element.now).offsets c.in_ok-steps.ensures
