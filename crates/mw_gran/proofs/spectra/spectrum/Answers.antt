use Rattle.std.proofs.Common.{◌+◌, ◌*◌, subst}
use Rattle.std.specs.Arc.{arc_value}
use Rattle.std.proofs.lemmas.Result.{IfOk-weaker}
use Rattle.mw_plan.specs.mw_element.Figures.{FillsBox}
use Rattle.mw_model.specs.declared.offsets.OffsetBox.{OffsetBox}
use Rattle.mw_model.specs.Elements.{Figure}
use Rattle.mw_model.specs.Iterates.{spectrum}
use Rattle.mw_model.specs.Laws.{HoldsOrigin}
use Rattle.mw_gran.specs.Turns.{Tells, TellsSpectrum, volume_steps}
use Rattle.mw_gran.proofs.Turns.{told_by_boxes, told_by_turns}
use Rattle.mw_gran.proofs.spectra.spectrum.Goals as goal

pub returns-in-Some : goal.returns-in-Some
returns-in-Some c =
    let b = (arc_value c.args.element.now).offsets in
    let fills = subst (λ (g : Figure). FillsBox c.in-Some.offsets g.offsets) c.deref.ensures c.in-Some.ensures.fills in
    let holds = subst (λ (g : Figure). HoldsOrigin g.offsets) c.deref.ensures c.in-Some.ensures.holds in
    IfOk-weaker c.by_boxes.result (λ p. Tells p (3 * c.args.levels + 1) (spectrum b c.args.levels)) (TellsSpectrum b c.args.levels) (told_by_boxes b c.args.levels) (c.by_boxes.ensures b fills holds)

pub returns : goal.returns
returns c =
    let b = (arc_value c.args.element.now).offsets in
    let no_box = subst (λ (g : Figure). (box : OffsetBox) → FillsBox box g.offsets → HoldsOrigin g.offsets → ⊥) c.deref.ensures c.in_default.ensures.none in
    IfOk-weaker c.by_turns.result (λ p. Tells p (c.args.levels + volume_steps c.args.levels) (spectrum b c.args.levels)) (TellsSpectrum b c.args.levels) (λ p tells. told_by_turns b c.args.levels p no_box tells) (c.by_turns.ensures b c.in_ok-steps.ensures)
