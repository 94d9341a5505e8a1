use Rattle.mw_model.proofs.mw_facts.Alls.{all-get_or}
use Rattle.mw_element.proofs.Lists.{bounds_step}
use Rattle.mw_element.proofs.offsets.bounds.Goals as goal
use Rattle.mw_element.specs.Figures.{InBox}

pub offsets-preserved : goal.offsets-preserved
offsets-preserved c = record {
  inside = bounds_step c.args.offsets.now c.offsets.b-index _ c.offsets.bounds c.stretch-bounds.result c.offsets-test.true c.offsets.invariant.inside c.stretch-bounds.ensures.outer c.stretch-bounds.ensures.inside;
  least = λ box all. c.stretch-bounds.ensures.least box (c.offsets.invariant.least box all) (all-get_or (λ o. InBox box o) c.args.offsets.now c.offsets.b-index _ c.offsets-test.true all);
}
