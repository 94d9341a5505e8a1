use Rattle.mw_rank_medians.proofs.Further.{three_ahead}
use Rattle.mw_rank_medians.proofs.ahead.three_one_ahead.Goals as goal

pub returns : goal.returns
returns g c = three_ahead g.P.Vectored.lane g.P.Vectored.WIDTH 1 c.args.here c.args.next _ c.one_ahead.ensures c.one_ahead-2.ensures c.one_ahead-3.ensures
