use Rattle.mw_rank_medians.specs.Numbered.{lanes_of_three}
use Rattle.mw_rank_medians.proofs.Orders.{median_found}
use Rattle.mw_rank_medians.proofs.nine.median_of_nine.Goals as goal

pub returns : goal.returns
returns g c = λ i f h k of-a of-b of-c t.
    let lane = g.P.Vectored.lane in
    rw (c.middle_of_three.ensures i, c.higher-low.ensures i, c.higher.ensures i, c.middle_of_three-middle.ensures i, c.lower-high.ensures i, c.lower.ensures i)
    (median_found (lanes_of_three lane c.args.a i) (lanes_of_three lane c.args.b i) (lanes_of_three lane c.args.c i) f h k of-a of-b of-c t)
