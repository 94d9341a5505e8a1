use Rattle.mw_rank_medians.proofs.Lanes.{loaded_lane}
use Rattle.mw_rank_medians.proofs.vectors_8.U8Vectored.load.Goals as goal

pub returns : goal.returns
returns c = λ i lt. loaded_lane 16 c.args.samples.now c.args.at i 255 c.requires lt
