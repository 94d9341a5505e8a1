use Rattle.mw_model.specs.declared.memory.NoMemory.{NoMemory}
use Rattle.mw_model.specs.Flat.{threshold}
use Rattle.mw_model.specs.PlanSteps as step
use Rattle.mw_plan.proofs.Acting.{acts_by_level}
use Rattle.mw_plan.proofs.OneImage.{alone_if_ok}
use Rattle.mw_plan.proofs.flat.thresholded.Goals as goal

pub returns-clause-makes : goal.returns-clause-makes
returns-clause-makes c = alone_if_ok NoMemory c.alone.result (step.AtLeast c.args.k) (threshold c.args.k) (acts_by_level c.args.k) c.alone.ensures
