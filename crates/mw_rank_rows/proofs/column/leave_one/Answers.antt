use Rattle.mw_rank_rows.proofs.Marked.{IsPut, left}
use Rattle.mw_rank_rows.proofs.column.leave_one.Goals as goal

pub returns-clause-counts : goal.returns-clause-counts
returns-clause-counts c = λ levels u w t lt more up.
    let a = c.args in
    let p : IsPut a.s a.counts.now c.put_lanes.new.counts c.lanes_at.result c.minus.result = record { read = c.lanes_at.ensures.lanes; put = c.put_lanes.ensures.put; others = c.put_lanes.ensures.others; size = c.put_lanes.ensures.size } in
    left levels u w a.counts.now c.put_lanes.new.counts a.front.level a.s a.front.below c.minus-2.result c.lanes_at.result c.minus.result a.marks c.lanes_if.result lt p c.minus.ensures.lanes c.minus-2.ensures.size c.lanes_if.ensures.lanes c.minus-2.ensures.lanes more up t
