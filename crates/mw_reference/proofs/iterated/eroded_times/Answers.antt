use Rattle.std.proofs.Common.{arith}
use Rattle.mw_model.specs.Flat.{erosion}
use Rattle.mw_reference.proofs.Iterates.{once_more, all_times}
use Rattle.mw_reference.proofs.iterated.eroded_times.Goals as goal

pub loop-i-preserved : goal.loop-i-preserved
loop-i-preserved c = once_more (erosion c.args.element.now) c.loop-i._i c.args.image.now c.loop-i.f c.in_ok-f-2.f c.in_ok-f-2.ensures c.loop-i.invariant

pub returns : goal.returns
returns c = all_times (erosion c.args.element.now) c.loop-i._i c.args.n c.args.image.now c.loop-i.f (omega arith) (omega arith) c.loop-i.invariant
