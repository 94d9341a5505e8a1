use Rattle.mw_netpbm_plain.proofs.Masks.{white_mask}
use Rattle.mw_netpbm_plain.proofs.room.blanks.Goals as goal

pub returns : goal.returns
returns c = white_mask c.places_of-tabs.result c.places_of-feeds.result c.places_of-returns.result c.places_of-spaces.result c.args.bytes.now c.places_of-tabs.ensures c.places_of-feeds.ensures c.places_of-returns.ensures c.places_of-spaces.ensures
