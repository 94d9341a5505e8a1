use Rattle.mw_rank_medians.proofs.Lanes.{stored_lane}
use Rattle.mw_rank_medians.proofs.vectors_8.U8Vectored.store.Goals as goal

pub returns-clause-put : goal.returns-clause-put
returns-clause-put c = λ i lt. stored_lane 16 c.args.out.now c.args.vector.lanes c.args.at i 255 c.requires c.args.vector.whole lt
