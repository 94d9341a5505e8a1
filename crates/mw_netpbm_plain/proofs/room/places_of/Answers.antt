use Rattle.mw_netpbm_plain.proofs.Masks.{mask_of}
use Rattle.mw_netpbm_plain.proofs.room.places_of.Goals as goal

pub returns : goal.returns
returns c = mask_of c.args.b c.args.bytes.now c.requires
