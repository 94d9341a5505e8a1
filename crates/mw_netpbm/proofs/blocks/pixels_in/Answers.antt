use Rattle.std.proofs.Common.{refl}
use Rattle.mw_netpbm.proofs.Turning.{pixels_loaded}
use Rattle.mw_netpbm.proofs.blocks.pixels_in.Goals as goal

pub returns : goal.returns
returns c = pixels_loaded c.args.bytes.now c.turned.result _ c.requires c.turned.ensures refl
