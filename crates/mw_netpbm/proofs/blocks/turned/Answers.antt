use Rattle.mw_netpbm.proofs.Turning.{turned_lanes}
use Rattle.mw_netpbm.proofs.blocks.turned.Goals as goal

pub returns : goal.returns
returns c = turned_lanes 64 c.args.bytes c.fits-bytes.0 c.fits-bytes.1
