use Rattle.std.proofs.Common.{ap, ◌∙◌}
use Rattle.std.specs.Arc.{arc_value}
use Rattle.mw_model.specs.Elements.{Figure}
use Rattle.mw_step_task.specs.Meanings.{meaning}
use Rattle.mw_plan.specs.Asked.{offsets_of_input}
use Rattle.mw_plan.proofs.Acting.{slides_by_offsets, slides_by_box}
use Rattle.mw_plan.proofs.sliding.slide.Goals as goal
use Rattle.mw_plan.proofs.sliding.slide.Goals.{in-Some, in-None+in_ok-try_clone-in-None}

pub returns-clause-acts : goal.returns-clause-acts
returns-clause-acts c =
    let e = offsets_of_input c.args.input in
    elim c.match-as_rectangle.branch [
      | in-Some w ↦
          slides_by_box c.args.extremum (meaning c.match-as_rectangle.result) w.in-Some.offsets c.deref.result.now.offsets e
          (ap meaning w.result-is ∙ w.by_box.ensures.is) w.in-Some.ensures.some (ap (λ (f : Figure). f.offsets) c.deref.ensures ∙ c.element-element.ensures)
      | in-None+in_ok-try_clone-in-None w ↦
          slides_by_offsets c.args.extremum (meaning c.match-as_rectangle.result) (arc_value w.in_ok-try_clone-in-None.field-0).offsets e
          (ap meaning w.result-is ∙ w.by_element.ensures.is) (ap (λ (f : Figure). f.offsets) w.in_ok-try_clone-in-None.ensures ∙ c.element-element.ensures)
    ]
