use Rattle.std.proofs.Common.{◌≡◌, ◌-◌, ◌≤◌, length}
use Rattle.mw_model.proofs.mw_facts.Merged.{merged}
use Rattle.mw_lane.proofs.subtract.subtract_rows.Given as goal

abbrev pub invariant-by_block : goal.invariant-by_block
invariant-by_block g l = record {
  within : l.at ≤ length l.acc;
  so_far : l.acc ≡ merged g.P.Lanes.difference l.at l.initial.acc l.other;
}

abbrev pub decreases-by_block : goal.decreases-by_block
decreases-by_block g l = length l.initial.acc - l.at

abbrev pub invariant-by_one : goal.invariant-by_one
invariant-by_one g l = record {
  within : l.at ≤ length l.acc;
  so_far : l.acc ≡ merged g.P.Lanes.difference l.at l.fn.acc l.other;
}

abbrev pub decreases-by_one : goal.decreases-by_one
decreases-by_one g l = length l.initial.acc - l.at
