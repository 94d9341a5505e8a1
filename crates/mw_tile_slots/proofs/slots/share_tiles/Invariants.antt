use Rattle.std.proofs.Common.{◌≡◌, take}
use Rattle.mw_tile_slots.proofs.slots.share_tiles.Given as goal

abbrev pub invariant-loop-tile : goal.invariant-loop-tile
invariant-loop-tile g l = l.shared.items ≡ take l.tile-index l.tiles
