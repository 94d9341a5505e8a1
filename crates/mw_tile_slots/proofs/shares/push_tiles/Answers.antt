use Rattle.std.proofs.Common.{◌+◌, arith}
use Rattle.mw_tile_slots.specs.Tiles.{cells_of}
use Rattle.mw_tile_slots.proofs.Sharing.{adds_more, adds_none}
use Rattle.mw_tile_slots.proofs.shares.push_tiles.Goals as goal

pub loop-i-init : goal.loop-i-init
loop-i-init g c = adds_none c.args.grid (cells_of c.args.tiles.now) c.args.first c.args.first c.args.pieces.now.items (omega arith)

pub loop-i-preserved : goal.loop-i-preserved
loop-i-preserved g c = adds_more c.args.grid (cells_of c.args.tiles.now) c.args.first c.loop-i.i (c.loop-i.i + 1) c.args.pieces.now.items c.loop-i.pieces.items _ c.loop-i.invariant c.in_ok-push_tile.ensures
