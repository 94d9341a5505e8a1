use Rattle.mw_rank_medians.proofs.Further.{ten_ahead}
use Rattle.mw_rank_medians.proofs.ahead.ten_two_ahead.Goals as goal

pub returns : goal.returns
returns g c = ten_ahead g.P.Vectored.lane g.P.Vectored.WIDTH 2 c.args.here c.args.next _ c.five_two_ahead.ensures c.five_two_ahead-2.ensures
