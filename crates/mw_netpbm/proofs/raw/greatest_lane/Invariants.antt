use Rattle.std.proofs.Common.{◌≡◌, fold, max, take}
use Rattle.mw_netpbm.proofs.raw.greatest_lane.Given as goal

abbrev pub invariant-lanes : goal.invariant-lanes
invariant-lanes l = l.most ≡ fold max 0 (take l.i l.lanes)
