use Rattle.mw_rank_medians.proofs.Lanes.{stored_lane}
use Rattle.mw_rank_medians.proofs.vectors_16.U16Vectored.store.Goals as goal

pub returns-clause-put : goal.returns-clause-put
returns-clause-put c = λ i lt. stored_lane 8 c.args.out.now c.args.vector.lanes c.args.at i 65535 c.requires c.args.vector.whole lt
