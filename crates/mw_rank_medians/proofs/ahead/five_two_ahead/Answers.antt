use Rattle.mw_rank_medians.proofs.Further.{five_ahead}
use Rattle.mw_rank_medians.proofs.ahead.five_two_ahead.Goals as goal

pub returns : goal.returns
returns g c = five_ahead g.P.Vectored.lane g.P.Vectored.WIDTH 2 c.args.here c.args.next _ c.two_ahead.ensures c.two_ahead-2.ensures c.two_ahead-3.ensures c.two_ahead-4.ensures c.two_ahead-5.ensures
