use Rattle.std.proofs.Common.{arith}
use Rattle.mw_reference.proofs.Loops.{lesser_so_far}
use Rattle.mw_reference.proofs.flat.LeastPixels.at.Goals as goal

pub loop-i-preserved : goal.loop-i-preserved
loop-i-preserved c =
    let a = c.args.self.now in
    lesser_so_far a.image.now a.element.now _ c.loop-i.i c.args.x c.args.y _ _ _ c.sample_under.result (omega arith) c.sample_under.ensures c.loop-i.invariant c.lesser-best.ensures
