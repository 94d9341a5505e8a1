use Rattle.mw_rank_lent.specs.Sorted.{lanes_of_sorted}
use Rattle.mw_rank_lent.proofs.Orders.{median_found}
use Rattle.mw_rank_lent.proofs.nine.median_of.Goals as goal

pub returns : goal.returns
returns g c = λ i f h k of-a of-b of-c t.
    let lane = g.P.Broad.wide_lane in
    rw (c.middle_of.ensures i, c.higher_wide-low.ensures i, c.higher_wide.ensures i, c.middle_of-middle.ensures i, c.lower_wide-high.ensures i, c.lower_wide.ensures i)
    (median_found (lanes_of_sorted lane c.args.a i) (lanes_of_sorted lane c.args.b i) (lanes_of_sorted lane c.args.c i) f h k of-a of-b of-c t)
