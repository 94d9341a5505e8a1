use Rattle.std.proofs.Common.{◌≡◌, None, replicate}
use Rattle.mw_tile_slots.proofs.slots.no_tiles.Given as goal

abbrev pub invariant-loop : goal.invariant-loop
invariant-loop g l = l.tiles.items ≡ replicate l.counter None
