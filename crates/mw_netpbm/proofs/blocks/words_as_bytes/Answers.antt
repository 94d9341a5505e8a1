use Rattle.mw_netpbm.proofs.Lanes.{bytes_stored}
use Rattle.mw_netpbm.proofs.blocks.words_as_bytes.Goals as goal

pub returns : goal.returns
returns c = bytes_stored c.args.samples.now c.swapped.result c.requires c.type_inv.samples c.swapped.ensures
