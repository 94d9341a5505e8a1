use Rattle.mw_plan.proofs.Planes.{length-planes, plane_is}
use Rattle.mw_plan.proofs.laws.planes_are_of_steps.Goals as goal

pub returns : goal.returns
returns c = record { count = length-planes; each = plane_is }
