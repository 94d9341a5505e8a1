use Rattle.std.proofs.Common.{false, ap, subst, ◌∙◌}
use Rattle.mw_model.specs.Elements.{reach_of}
use Rattle.mw_element.specs.Told.{TellsBox, TellsRuns}
use Rattle.mw_element.proofs.element.Element.new.Goals as goal

pub invariant_of-result : goal.invariant_of-result
invariant_of-result c = (
  c.requires.figure,
  c.requires.few,
  c.requires.ordered,
  c.reach-reach.ensures.value ∙ ap reach_of c.deref.ensures.value,
  subst (TellsBox c.as_box-rectangle.result) c.deref-2.ensures.value (record { some = c.as_box-rectangle.ensures.some; none = c.as_box-rectangle.ensures.none }),
  subst (TellsRuns false c.in_ok-runs.runs.items) c.deref-3.ensures.value c.in_ok-runs.ensures,
)
