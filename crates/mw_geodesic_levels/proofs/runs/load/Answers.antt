use Rattle.std.proofs.Common.{◌+◌, arith, refl, ap}
use Rattle.mw_geodesic_levels.specs.Levels.{level_numbered}
use Rattle.mw_geodesic_levels.proofs.Blocks.{loaded_more}
use Rattle.mw_geodesic_levels.proofs.runs.load.Goals as goal

pub loop-k-init : goal.loop-k-init
loop-k-init g c = record { before = λ j lt. refl; block = λ j lt. absurd (omega arith) }

pub loop-k-preserved : goal.loop-k-preserved
loop-k-preserved g c =
    let level = g.P.Pixel.level in
    let more = loaded_more (level_numbered level c.args.run.now) (level_numbered level c.loop-k.run) (level_numbered level c.put.new.samples) (level_numbered level c.args.samples.now) c.args.forward c.args.start c.loop-k.k (64 + c.loop-k.k) (level c.at-s.result) refl
    (omega (arith, c.at-s.ensures, ap (level_numbered level c.args.samples.now) c.step.ensures)) c.put.ensures c.loop-k.invariant.before c.loop-k.invariant.block in
    record { before = more.0; block = more.1 }
