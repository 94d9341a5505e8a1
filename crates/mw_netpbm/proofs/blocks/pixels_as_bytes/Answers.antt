use Rattle.std.proofs.Common.{refl}
use Rattle.mw_netpbm.proofs.Turning.{pixels_stored}
use Rattle.mw_netpbm.proofs.blocks.pixels_as_bytes.Goals as goal

pub returns : goal.returns
returns c = pixels_stored c.args.words.now _ c.turned.result c.requires c.type_inv.words refl c.turned.ensures
