use Rattle.mw_rank_medians.proofs.Further.{five_ahead}
use Rattle.mw_rank_medians.proofs.ahead.five_four_ahead.Goals as goal

pub returns : goal.returns
returns g c = five_ahead g.P.Vectored.lane g.P.Vectored.WIDTH 4 c.args.here c.args.next _ c.four_ahead.ensures c.four_ahead-2.ensures c.four_ahead-3.ensures c.four_ahead-4.ensures c.four_ahead-5.ensures
