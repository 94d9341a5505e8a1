use Rattle.std.proofs.Common.{◌∙◌, sym}
use Rattle.mw_plan.specs.Seen.{planned}
use Rattle.mw_c_direct.proofs.Frames.{number_is, plane_is_made}
use Rattle.mw_c_direct.proofs.making.made.Goals as goal

pub returns-then-is_sum : goal.returns-then-is_sum
returns-then-is_sum c = (sym c.is_sum.ensures ∙ c.if-is_sum.true, number_is c.args.image.now c.args.planes.now (planned c.args.step.now) c.in_ok-done.done c.number.result c.requires c.in_ok-done.ensures (sym c.is_sum.ensures ∙ c.if-is_sum.true) c.number.ensures)

pub returns-else-is_sum : goal.returns-else-is_sum
returns-else-is_sum c = (sym c.is_sum.ensures ∙ c.if-is_sum.false, c.into_image.ensures ∙ plane_is_made c.args.image.now c.args.planes.now (planned c.args.step.now) c.in_ok-done.done c.requires c.in_ok-done.ensures (sym c.is_sum.ensures ∙ c.if-is_sum.false))
