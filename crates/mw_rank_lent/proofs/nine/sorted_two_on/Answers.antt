use Rattle.mw_rank_lent.proofs.Further.{sorted_ahead}
use Rattle.mw_rank_lent.proofs.nine.sorted_two_on.Goals as goal

pub returns : goal.returns
returns g c = sorted_ahead g.P.Broad.wide_lane g.P.Broad.BREADTH 2 c.args.here c.args.next _ c.two_on.ensures c.two_on-2.ensures c.two_on-3.ensures
