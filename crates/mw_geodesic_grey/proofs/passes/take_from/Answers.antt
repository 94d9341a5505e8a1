use Rattle.std.proofs.Common.{◌-◌, ℕ, arith}
use Rattle.mw_geodesic_levels.specs.Levels.{level_numbered}
use Rattle.mw_geodesic_grey.proofs.Passed.{level_read, none_passed, passed_on}
use Rattle.mw_geodesic_grey.proofs.passes.take_from.Goals as goal

pub loop-i-init : goal.loop-i-init
loop-i-init g c = none_passed g.P.Pixel.level (λ (k n : ℕ). level_numbered g.P.Pixel.level c.args.image.now k - n) c.args.samples.now

pub loop-i-preserved : goal.loop-i-preserved
loop-i-preserved g c =
    let level = g.P.Pixel.level in
    let image = level_read level c.args.image.now c.loop-i.i c.index-image-i.result (omega arith) c.index-image-i.is in
    passed_on level (λ (k n : ℕ). level_numbered level c.args.image.now k - n) c.loop-i.i c.args.samples.now c.loop-i.samples c.index-samples-i.result c.sample_of.result (omega arith) c.index-samples-i.is
    (omega (arith, image, c.sample_of.ensures, c.saturating_sub.ensures, c.value-level.ensures.level, c.value.ensures.level)) c.loop-i.invariant

pub returns : goal.returns
returns g c = λ i lt. c.loop-i.invariant.done i (omega arith)
