use Rattle.mw_rank_medians.proofs.Further.{three_ahead}
use Rattle.mw_rank_medians.proofs.ahead.three_two_ahead.Goals as goal

pub returns : goal.returns
returns g c = three_ahead g.P.Vectored.lane g.P.Vectored.WIDTH 2 c.args.here c.args.next _ c.two_ahead.ensures c.two_ahead-2.ensures c.two_ahead-3.ensures
