use Rattle.mw_rank_lent.proofs.Lanes.{loaded_lane, loaded_long}
use Rattle.mw_rank_lent.proofs.broad_16.U16Broad.load_wide.Goals as goal

pub invariant_of-result : goal.invariant_of-result
invariant_of-result c = record { whole = loaded_long 16 c.args.samples.now c.args.at c.requires }

pub returns : goal.returns
returns c = λ i lt. loaded_lane 16 c.args.samples.now c.args.at i 65535 c.requires lt
