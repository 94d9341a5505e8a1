use Rattle.mw_model.specs.declared.memory.NoMemory.{NoMemory}
use Rattle.mw_step_task.specs.Meanings.{meaning}
use Rattle.mw_plan.specs.Asked.{offsets_of_input}
use Rattle.mw_plan.specs.Steps.{sliding}
use Rattle.mw_plan.proofs.OneImage.{alone_if_ok}
use Rattle.mw_plan.proofs.flat.extremum_plan.Goals as goal

pub returns-clause-makes : goal.returns-clause-makes
returns-clause-makes c = alone_if_ok NoMemory c.alone.result (meaning c.in_ok-slide.field-0) (sliding c.args.extremum (offsets_of_input c.args.b)) c.in_ok-slide.ensures.acts c.alone.ensures
