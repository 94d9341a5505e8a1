use Rattle.std.proofs.Common.{◌≡◌}
use Rattle.mw_model.proofs.mw_facts.Merged.{merged}
use Rattle.mw_lane.proofs.lanes.Lanes.subtract_block.Given as goal

abbrev pub invariant-loop-i : goal.invariant-loop-i
invariant-loop-i g l = l.acc ≡ merged g.Self.Lanes.difference l.i l.initial.acc l.other
