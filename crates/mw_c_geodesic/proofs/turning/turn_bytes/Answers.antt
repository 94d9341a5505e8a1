use Rattle.std.proofs.Common.{◌-◌, arith}
use Rattle.mw_c_geodesic.proofs.TurnedSamples.{all_turned, none_turned, turned_more}
use Rattle.mw_c_geodesic.proofs.turning.turn_bytes.Goals as goal

pub loop-i-init : goal.loop-i-init
loop-i-init c = none_turned (λ s. c.args.top - s) c.args.samples.now

pub loop-i-preserved : goal.loop-i-preserved
loop-i-preserved c = turned_more (λ s. c.args.top - s) c.args.samples.now c.loop-i.samples c.loop-i.i c.saturating_sub.result (omega arith) c.saturating_sub.ensures c.loop-i.invariant

pub returns : goal.returns
returns c = all_turned (λ s. c.args.top - s) c.args.samples.now c.loop-i.samples c.loop-i.i (omega arith) c.loop-i.invariant
