use Rattle.mw_tile_pieces.proofs.Patches.{within_as}
use Rattle.mw_tile_pieces.proofs.pieces.Pieces.shared.Goals as goal

pub standing-requires-clause-within : goal.standing-requires-clause-within
standing-requires-clause-within g c = within_as c.args.self.now c.place-place.result c.frame_width-width.result c.frame_height-height.result c.pieces-pieces.ensures.joint c.place-place.ensures c.frame_width-width.ensures c.frame_height-height.ensures
