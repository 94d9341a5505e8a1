use Rattle.std.specs.Int.{w16}
use Rattle.mw_rank_medians.proofs.Lanes.{lower_lane, lower_long}
use Rattle.mw_rank_medians.proofs.vectors_16.U16Vectored.lower.Goals as goal

pub invariant_of-result : goal.invariant_of-result
invariant_of-result c = record { whole = lower_long w16 c.args.a.lanes c.args.b.lanes 8 c.args.a.whole c.args.b.whole }

pub returns : goal.returns
returns c = λ i. lower_lane w16 c.args.a.lanes c.args.b.lanes i 8 c.args.a.whole c.args.b.whole
