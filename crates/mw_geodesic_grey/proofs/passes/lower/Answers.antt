use Rattle.std.proofs.Common.{◌-◌, ℕ, arith}
use Rattle.mw_geodesic_grey.proofs.Passed.{none_passed, passed_on}
use Rattle.mw_geodesic_grey.proofs.passes.lower.Goals as goal

pub loop-i-init : goal.loop-i-init
loop-i-init g c = none_passed g.P.Pixel.level (λ (_ n : ℕ). n - c.args.h) c.args.samples.now

pub loop-i-preserved : goal.loop-i-preserved
loop-i-preserved g c =
    passed_on g.P.Pixel.level (λ (_ n : ℕ). n - c.args.h) c.loop-i.i c.args.samples.now c.loop-i.samples c.index-samples-i.result c.sample_of.result (omega arith) c.index-samples-i.is
    (omega (arith, c.sample_of.ensures, c.saturating_sub.ensures, c.value.ensures.level)) c.loop-i.invariant

pub returns : goal.returns
returns g c = λ i lt. c.loop-i.invariant.done i (omega arith)
