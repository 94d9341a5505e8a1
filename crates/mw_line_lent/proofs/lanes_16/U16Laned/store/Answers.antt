use Rattle.mw_line_lent.proofs.Vectors.{stored_lane, stored_behind}
use Rattle.mw_line_lent.proofs.lanes_16.U16Laned.store.Goals as goal

pub returns-clause-put : goal.returns-clause-put
returns-clause-put c = λ i d lt. stored_lane 16 c.args.out.now c.args.vector.lanes c.args.at i d c.requires c.args.vector.whole lt

pub returns-clause-behind : goal.returns-clause-behind
returns-clause-behind c = λ p d le. stored_behind 16 c.args.out.now c.args.vector.lanes c.args.at p d c.requires c.args.vector.whole le
