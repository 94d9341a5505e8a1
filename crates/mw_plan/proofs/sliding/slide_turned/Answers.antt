use Rattle.std.proofs.Common.{ap, ◌∙◌}
use Rattle.std.specs.Arc.{arc_value}
use Rattle.mw_model.specs.Elements.{Figure}
use Rattle.mw_model.specs.Flat.{reflected}
use Rattle.mw_step_task.specs.Meanings.{meaning}
use Rattle.mw_plan.specs.Asked.{offsets_of_input}
use Rattle.mw_plan.proofs.Acting.{slides_by_offsets, slides_by_turned_box}
use Rattle.mw_plan.proofs.sliding.slide_turned.Goals as goal

pub returns-in-Some-clause-acts : goal.returns-in-Some-clause-acts
returns-in-Some-clause-acts c =
    let box = c.in-Some.ensures in
    slides_by_turned_box c.args.extremum (meaning c.by_box.result) box.0 c.in-Some.offsets c.deref.result.now.offsets (offsets_of_input c.args.input)
    c.by_box.ensures.is box.1 box.2 (ap (λ (f : Figure). f.offsets) c.deref.ensures ∙ c.element-element.ensures)

pub returns-clause-acts : goal.returns-clause-acts
returns-clause-acts c =
    slides_by_offsets c.args.extremum (meaning c.by_element.result) (arc_value c.in_ok-new.field-0).offsets (reflected (offsets_of_input c.args.input)) c.by_element.ensures.is
    (ap (λ (f : Figure). f.offsets) (c.in_ok-new.ensures.ok ∙ c.in_ok-turned.ensures) ∙ ap reflected (ap (λ (f : Figure). f.offsets) c.deref-2.ensures ∙ c.element-element.ensures))
