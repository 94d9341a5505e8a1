use Rattle.std.proofs.Common.{arith, refl}
use Rattle.mw_geodesic_levels.specs.Levels.{level_numbered}
use Rattle.mw_geodesic_levels.proofs.Raises.{cut_more}
use Rattle.mw_geodesic_levels.proofs.rebuilding.cut.Goals as goal

pub loop-i-init : goal.loop-i-init
loop-i-init g c = record { done = λ k lt. absurd (omega arith); rest = λ k le. refl }

pub loop-i-preserved : goal.loop-i-preserved
loop-i-preserved g c =
    let level = g.P.Pixel.level in
    let more = cut_more (level_numbered level c.args.samples.now) (level_numbered level c.args.mask.now) (level_numbered level c.loop-i.samples) (level_numbered level c.put.new.samples) c.loop-i.i (level c.lesser-s.result) (omega (arith, c.lesser-s.ensures, c.at.ensures, c.at-in-loop-i.ensures)) c.put.ensures c.loop-i.invariant.done c.loop-i.invariant.rest in
    record { done = more.0; rest = more.1 }
