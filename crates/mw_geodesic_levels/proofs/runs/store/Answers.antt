use Rattle.std.proofs.Common.{◌+◌, length, arith, ap}
use Rattle.mw_geodesic_levels.specs.Levels.{level_numbered}
use Rattle.mw_geodesic_levels.proofs.Blocks.{stored_over, stored_under, along_ahead}
use Rattle.mw_geodesic_levels.proofs.runs.store.Goals as goal

pub loop-k-init : goal.loop-k-init
loop-k-init g c = record { over = λ i lt. omega arith; within = λ h made under. under }

pub loop-k-preserved : goal.loop-k-preserved
loop-k-preserved g c =
    let level = g.P.Pixel.level in
    let run = level_numbered level c.args.run.now in
    let now = level_numbered level c.loop-k.samples in
    let next = level_numbered level c.put.new.samples in
    record {
      over = stored_over (level_numbered level c.args.samples.now) now next (length c.args.samples.now) c.step-i.result (level c.greater-s.result) (run (64 + c.loop-k.k)) (omega (arith, c.greater-s.ensures, c.at.ensures, c.at-in-loop-k.ensures)) c.put.ensures c.loop-k.invariant.over;
      within = λ h made under. stored_under now next h (length c.args.samples.now) c.step-i.result (level c.greater-s.result) (run (64 + c.loop-k.k)) (let in_image = c.requires.inside c.loop-k.k (omega arith) in omega (arith, c.step-i.ensures)) (omega (arith, c.greater-s.ensures, c.at.ensures, c.at-in-loop-k.ensures))
          (let top = made c.loop-k.k (omega arith) in omega (arith, ap h c.step-i.ensures)) c.put.ensures (c.loop-k.invariant.within h made under);
    }

pub step-i-requires-clause-ahead : goal.step-i-requires-clause-ahead
step-i-requires-clause-ahead g c = λ right.
    let inside = c.requires.inside c.loop-k.k (omega arith) in
    omega (arith, along_ahead c.args.forward c.args.start c.loop-k.k right)
