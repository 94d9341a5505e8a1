use Rattle.mw_rank_lent.proofs.Lanes.{stored_lane}
use Rattle.mw_rank_lent.proofs.broad_8.U8Broad.store_wide.Goals as goal

pub returns-clause-put : goal.returns-clause-put
returns-clause-put c = λ i lt. stored_lane 32 c.args.out.now c.args.vector.lanes c.args.at i 255 c.requires c.args.vector.whole lt
