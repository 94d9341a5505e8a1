use Rattle.mw_rank_lent.proofs.Further.{sorted_ahead}
use Rattle.mw_rank_lent.proofs.nine.sorted_one_on.Goals as goal

pub returns : goal.returns
returns g c = sorted_ahead g.P.Broad.wide_lane g.P.Broad.BREADTH 1 c.args.here c.args.next _ c.one_on.ensures c.one_on-2.ensures c.one_on-3.ensures
