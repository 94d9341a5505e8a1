use Rattle.std.proofs.Common.{arith, inl, inr}
use Rattle.mw_geodesic_grey.proofs.Passed.{none_cleared, one_cleared}
use Rattle.mw_geodesic_grey.proofs.border.clear_run.Goals as goal

pub loop-i-init : goal.loop-i-init
loop-i-init g c = none_cleared g.P.Pixel.level c.args.from c.args.samples.now

pub loop-i-preserved : goal.loop-i-preserved
loop-i-preserved g c =
    let size = c.loop-i.invariant.size in
    one_cleared g.P.Pixel.level c.args.from c.loop-i.i c.args.samples.now c.loop-i.samples c.sample_of.result (omega arith) (omega arith) c.sample_of.ensures c.loop-i.invariant

pub returns-clause-inside : goal.returns-clause-inside
returns-clause-inside g c = λ i from lt. c.loop-i.invariant.inside i from (omega arith)

pub returns-clause-outside : goal.returns-clause-outside
returns-clause-outside g c = λ i either. c.loop-i.invariant.outside i (elim either [
  | inl before ↦ inl before
  | inr behind ↦ inr (omega arith)
])
