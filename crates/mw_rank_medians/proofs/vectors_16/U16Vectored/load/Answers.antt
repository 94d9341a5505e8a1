use Rattle.mw_rank_medians.proofs.Lanes.{loaded_lane}
use Rattle.mw_rank_medians.proofs.vectors_16.U16Vectored.load.Goals as goal

pub returns : goal.returns
returns c = λ i lt. loaded_lane 8 c.args.samples.now c.args.at i 65535 c.requires lt
