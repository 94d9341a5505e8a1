use Rattle.mw_netpbm.proofs.Lanes.{swap_lanes}
use Rattle.mw_netpbm.proofs.blocks.swapped.Goals as goal

pub returns : goal.returns
returns c = swap_lanes 32 c.args.words c.fits-words.0 c.fits-words.1
