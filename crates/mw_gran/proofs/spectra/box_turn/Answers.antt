use Rattle.std.proofs.Common.{◌+◌, ap, ◌∙◌}
use Rattle.mw_model.specs.declared.offsets.OffsetBox.{OffsetBox}
use Rattle.mw_model.specs.PlanSteps.{ErodeBox, DilateBox}
use Rattle.mw_plan.specs.Seen.{source}
use Rattle.mw_gran.specs.Boxes.{multiplied}
use Rattle.mw_gran.proofs.OneMore.{with_step, thrice_count}
use Rattle.mw_gran.proofs.Turns.{box_turn}
use Rattle.mw_gran.proofs.spectra.box_turn.Goals as goal

pub returns-clause-count : goal.returns-clause-count
returns-clause-count c = thrice_count _ _ _ _ _ _ _ _ _ _ _ _ _ c.in_ok-eroded.ensures c.in_ok-opened.ensures c.in_ok-add.ensures

pub returns-clause-tells : goal.returns-clause-tells
returns-clause-tells c = λ b fills holds tells.
    box_turn b c.args.offsets c.args.n c.args.plan.now c.add.new.plan c.add-2.new.plan c.add-3.new.plan (source c.in_ok-eroded.eroded) (source c.in_ok-opened.opened) (source c.in_ok-add.field-0) fills holds tells
    (with_step _ _ _ _ _ _ (ap ErodeBox c.multiplied.ensures) c.in_ok-eroded.ensures)
    (with_step _ _ _ _ _ _ (ap DilateBox (c.multiplied-2.ensures ∙ ap (λ (t : OffsetBox). multiplied (c.args.n + 1) t) c.turned.ensures.value)) c.in_ok-opened.ensures) c.in_ok-add.ensures
