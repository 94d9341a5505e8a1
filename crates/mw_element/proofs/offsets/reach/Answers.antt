use Rattle.mw_element.proofs.Lists.{reach_step, reach_end}
use Rattle.mw_element.proofs.offsets.reach.Goals as goal

pub offsets-preserved : goal.offsets-preserved
offsets-preserved c = reach_step c.args.offsets.now c.offsets.b-index _ c.offsets.reach c.grow-reach.result c.offsets-test.true c.offsets.invariant c.grow-reach.ensures

pub returns-clause-within : goal.returns-clause-within
returns-clause-within c = reach_end c.args.offsets.now c.offsets.b-index c.offsets.reach c.offsets-test.false c.offsets.invariant
