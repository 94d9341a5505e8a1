use Rattle.std.proofs.Common.{refl, arith}
use Rattle.mw_grid.proofs.Tiles.{HasTiles}
use Rattle.mw_tile_slots.proofs.Numbers.{number_within, number_holds}
use Rattle.mw_tile_slots.proofs.parts.tile_number.Goals as goal

pub returns-clause-within : goal.returns-clause-within
returns-clause-within c =
    let across = c.requires.across in
    let down = c.requires.down in
    let least = c.side-side.ensures.some in
    let side-is = c.side-side.ensures.value in
    let has : HasTiles c.args.grid = record { wide = omega arith; high = omega arith; some = omega arith } in
    number_within c.args.grid c.args.x c.args.y _ c.side-side.result c.columns-columns.result has across down refl side-is c.columns-columns.ensures.value

pub returns-clause-holds : goal.returns-clause-holds
returns-clause-holds c =
    let across = c.requires.across in
    let down = c.requires.down in
    let least = c.side-side.ensures.some in
    let side-is = c.side-side.ensures.value in
    let has : HasTiles c.args.grid = record { wide = omega arith; high = omega arith; some = omega arith } in
    number_holds c.args.grid c.args.x c.args.y _ c.side-side.result c.columns-columns.result has across down refl side-is c.columns-columns.ensures.value
