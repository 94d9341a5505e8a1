use Rattle.mw_line_lent.proofs.Vectors.{loaded_lane, loaded_long}
use Rattle.mw_line_lent.proofs.lanes_16.U16Laned.load.Goals as goal

pub invariant_of-result : goal.invariant_of-result
invariant_of-result c = record { whole = loaded_long 16 c.args.samples.now c.args.at c.requires }

pub returns : goal.returns
returns c = λ i d lt. loaded_lane 16 c.args.samples.now c.args.at i d c.requires lt
