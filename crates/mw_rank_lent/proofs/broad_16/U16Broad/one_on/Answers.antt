use Rattle.std.proofs.Common.{arith}
use Rattle.mw_rank_lent.proofs.Lanes.{ahead_lane, ahead_long}
use Rattle.mw_rank_lent.proofs.broad_16.U16Broad.one_on.Goals as goal

pub invariant_of-result : goal.invariant_of-result
invariant_of-result c = record { whole = ahead_long 16 1 c.args.here.lanes c.args.next.lanes (omega arith) c.args.here.whole c.args.next.whole }

pub returns : goal.returns
returns c = λ i lt. ahead_lane 16 1 c.args.here.lanes c.args.next.lanes i (omega arith) c.args.here.whole c.args.next.whole lt
