use Rattle.mw_rank_bits.proofs.Vectors.{stored_bit, stored_other}
use Rattle.mw_rank_bits.proofs.lanes.store.Goals as goal

pub returns-clause-put : goal.returns-clause-put
returns-clause-put c = λ q. stored_bit c.args.out.now c.args.at c.args.lanes.words q c.requires c.args.lanes.whole

pub returns-clause-others : goal.returns-clause-others
returns-clause-others c = λ p. stored_other c.args.out.now c.args.at c.args.lanes.words p c.requires c.args.lanes.whole
