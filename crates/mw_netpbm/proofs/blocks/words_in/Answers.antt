use Rattle.mw_netpbm.proofs.Lanes.{words_loaded}
use Rattle.mw_netpbm.proofs.blocks.words_in.Goals as goal

pub returns : goal.returns
returns c = words_loaded c.args.bytes.now c.swapped.result c.requires c.type_inv.bytes c.swapped.ensures
