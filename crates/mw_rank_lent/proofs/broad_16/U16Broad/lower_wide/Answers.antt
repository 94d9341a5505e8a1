use Rattle.std.specs.Int.{w16}
use Rattle.mw_rank_lent.proofs.Lanes.{lower_lane, lower_long}
use Rattle.mw_rank_lent.proofs.broad_16.U16Broad.lower_wide.Goals as goal

pub invariant_of-result : goal.invariant_of-result
invariant_of-result c = record { whole = lower_long w16 c.args.a.lanes c.args.b.lanes 16 c.args.a.whole c.args.b.whole }

pub returns : goal.returns
returns c = λ i. lower_lane w16 c.args.a.lanes c.args.b.lanes i 16 c.args.a.whole c.args.b.whole
