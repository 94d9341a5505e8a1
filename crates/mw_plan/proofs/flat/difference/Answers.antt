use Rattle.mw_step_task.specs.Meanings.{meaning}
use Rattle.mw_model.specs.Plans.{FromStep}
use Rattle.mw_plan.specs.Asked.{offsets_of_input}
use Rattle.mw_plan.specs.Seen.{planned}
use Rattle.mw_plan.specs.Steps.{less, of_image, sliding}
use Rattle.mw_plan.proofs.OneImage.{alike_extrema, difference_makes, three_pushed}
use Rattle.mw_plan.proofs.flat.difference.Goals as goal

pub returns-clause-makes : goal.returns-clause-makes
returns-clause-makes c =
    let s = meaning c.in_ok-greater.greater in
    let t = meaning c.in_ok-lesser.lesser in
    let e = offsets_of_input c.args.first in
    let d = offsets_of_input c.args.second in
    difference_makes s t (sliding c.args.upper e) (sliding c.args.lower d) c.push-3.new.self
    (three_pushed c.in_ok-plan.plan c.push.new.self c.push-2.new.self c.push-3.new.self (planned c.of_image.result) (planned c.of_image-2.result) (planned c.less.result) (of_image s) (of_image t) (less (FromStep 0) (FromStep 1))
    c.in_ok-plan.ensures c.in_ok-push.ensures c.of_image.ensures c.in_ok-push-2.ensures c.of_image-2.ensures c.in_ok-push-3.ensures c.less.ensures)
    c.in_ok-greater.ensures.acts c.in_ok-lesser.ensures.acts (alike_extrema c.args.upper c.args.lower e d)
