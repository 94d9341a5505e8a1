use Rattle.mw_line_lent.proofs.Vectors.{filled_lane}
use Rattle.mw_line_lent.proofs.lanes_16.U16Laned.all.Goals as goal

pub returns : goal.returns
returns c = λ i lt. filled_lane 16 c.args.sample i lt
