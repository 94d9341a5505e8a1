use Rattle.std.proofs.Common.{arith, ◌∙◌}
use Rattle.mw_model.proofs.mw_facts.Merged.{merged_step, merged_all}
use Rattle.mw_lane.proofs.lanes.Lanes.subtract_block.Goals as goal

pub loop-i-preserved : goal.loop-i-preserved
loop-i-preserved g c = merged_step g.Self.Lanes.difference c.loop-i.i c.args.acc.now c.args.other.now c.loop-i.acc c.index-acc-i.result c.index-other-i.result c.subtract.result (omega arith) (omega arith) c.loop-i.invariant c.index-acc-i.is c.index-other-i.is c.subtract.ensures

pub returns : goal.returns
returns g c = c.loop-i.invariant ∙ merged_all g.Self.Lanes.difference c.loop-i.i c.args.acc.now c.args.other.now (omega arith) (omega arith)
