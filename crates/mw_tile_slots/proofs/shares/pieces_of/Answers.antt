use Rattle.std.proofs.Common.{arith}
use Rattle.mw_grid.proofs.Tiles.{HasTiles}
use Rattle.mw_tile_slots.specs.Tiles.{cells_of}
use Rattle.mw_tile_slots.proofs.Sharing.{joint_of_tiles, shown_of_tiles}
use Rattle.mw_tile_slots.proofs.shares.pieces_of.Goals as goal

pub new-requires : goal.new-requires
new-requires g c =
    let wide = c.width-width.ensures.some in
    let high = c.height-height.ensures.some in
    let least = c.side-side.ensures.some in
    let width-is = c.width-width.ensures.value in
    let height-is = c.height-height.ensures.value in
    let side-is = c.side-side.ensures.value in
    let has : HasTiles c.args.grid = record { wide = omega arith; high = omega arith; some = omega arith } in
    joint_of_tiles c.args.grid c.args.tiles.now c.args.rect c.in_ok-pieces.pieces.items c.width-width.result c.height-height.result has c.requires.sides c.requires.within c.requires.placed c.in_ok-pieces.ensures width-is height-is

pub returns-clause-shows : goal.returns-clause-shows
returns-clause-shows g c =
    let wide = c.width-width.ensures.some in
    let high = c.height-height.ensures.some in
    let least = c.side-side.ensures.some in
    let width-is = c.width-width.ensures.value in
    let height-is = c.height-height.ensures.value in
    let side-is = c.side-side.ensures.value in
    let has : HasTiles c.args.grid = record { wide = omega arith; high = omega arith; some = omega arith } in
    shown_of_tiles c.args.grid (cells_of c.args.tiles.now) c.args.rect c.in_ok-pieces.pieces.items c.width-width.result c.height-height.result c.new.result has c.requires.within c.requires.placed c.in_ok-pieces.ensures width-is height-is c.new.ensures
