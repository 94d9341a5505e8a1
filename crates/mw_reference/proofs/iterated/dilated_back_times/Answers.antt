use Rattle.std.proofs.Common.{arith, ap, ◌∙◌, List}
use Rattle.mw_model.specs.declared.offsets.Offset.{Offset}
use Rattle.mw_model.specs.Flat.{dilation, reflected}
use Rattle.mw_reference.proofs.Iterates.{once_more, all_times}
use Rattle.mw_reference.proofs.iterated.dilated_back_times.Goals as goal

pub loop-i-preserved : goal.loop-i-preserved
loop-i-preserved c = once_more (dilation (reflected c.args.element.now)) c.loop-i._i c.args.image.now c.loop-i.f c.in_ok-f-2.f (c.in_ok-f-2.ensures ∙ ap (λ (t : List Offset). dilation t c.loop-i.f) c.turned-turned.ensures) c.loop-i.invariant

pub returns : goal.returns
returns c = all_times (dilation (reflected c.args.element.now)) c.loop-i._i c.args.n c.args.image.now c.loop-i.f (omega arith) (omega arith) c.loop-i.invariant
