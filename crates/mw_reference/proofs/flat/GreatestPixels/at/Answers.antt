use Rattle.std.proofs.Common.{arith}
use Rattle.mw_reference.proofs.Loops.{greater_so_far}
use Rattle.mw_reference.proofs.flat.GreatestPixels.at.Goals as goal

pub loop-i-preserved : goal.loop-i-preserved
loop-i-preserved c =
    let a = c.args.self.now in
    greater_so_far a.image.now a.element.now c.loop-i.i c.args.x c.args.y _ _ _ c.sample_under.result (omega arith) c.sample_under.ensures c.loop-i.invariant c.greater-best.ensures
