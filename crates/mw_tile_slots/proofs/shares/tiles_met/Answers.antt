use Rattle.std.proofs.Common.{◌≡◌, ◌/◌, List, [], refl, sym, subst, arith, rules}
use Rattle.mw_grid.proofs.Tiles.{HasTiles}
use Rattle.mw_tile_pieces.specs.Patches.{Patch}
use Rattle.mw_tile_slots.specs.Tiles.{cells_of}
use Rattle.mw_tile_slots.proofs.Sharing.{met_block, no_rows_met, row_met, row_numbers, rows_are_met, HasRowsMet, IsMetBlock}
use Rattle.mw_tile_slots.proofs.shares.tiles_met.Goals as goal

pub overflow_sub-high : goal.overflow_sub-high
overflow_sub-high g c =
    let wide = c.width-width.ensures.some in
    let high = c.height-height.ensures.some in
    let least = c.side-side.ensures.some in
    let width-is = c.width-width.ensures.value in
    let height-is = c.height-height.ensures.value in
    let side-is = c.side-side.ensures.value in
    let has : HasTiles c.args.grid = record { wide = omega arith; high = omega arith; some = omega arith } in
    let left = c.args.rect.x / c.side-side.result in
    let right = c.end_of-right.result in
    let top = c.args.rect.y / c.side-side.result in
    let bottom = c.end_of-bottom.result in
    let block : IsMetBlock c.args.grid left right top bottom = met_block c.args.grid c.args.rect c.side-side.result left right top bottom has c.requires.within c.requires.some.0 c.requires.some.1 side-is refl c.end_of-right.ensures refl c.end_of-bottom.ensures in
    block.down

pub overflow_sub-wide : goal.overflow_sub-wide
overflow_sub-wide g c =
    let wide = c.width-width.ensures.some in
    let high = c.height-height.ensures.some in
    let least = c.side-side.ensures.some in
    let width-is = c.width-width.ensures.value in
    let height-is = c.height-height.ensures.value in
    let side-is = c.side-side.ensures.value in
    let has : HasTiles c.args.grid = record { wide = omega arith; high = omega arith; some = omega arith } in
    let left = c.args.rect.x / c.side-side.result in
    let right = c.end_of-right.result in
    let top = c.args.rect.y / c.side-side.result in
    let bottom = c.end_of-bottom.result in
    let block : IsMetBlock c.args.grid left right top bottom = met_block c.args.grid c.args.rect c.side-side.result left right top bottom has c.requires.within c.requires.some.0 c.requires.some.1 side-is refl c.end_of-right.ensures refl c.end_of-bottom.ensures in
    block.across

pub overflow_mul-first : goal.overflow_mul-first
overflow_mul-first g c =
    let wide = c.width-width.ensures.some in
    let high = c.height-height.ensures.some in
    let least = c.side-side.ensures.some in
    let width-is = c.width-width.ensures.value in
    let height-is = c.height-height.ensures.value in
    let side-is = c.side-side.ensures.value in
    let has : HasTiles c.args.grid = record { wide = omega arith; high = omega arith; some = omega arith } in
    let left = c.args.rect.x / c.side-side.result in
    let right = c.end_of-right.result in
    let top = c.args.rect.y / c.side-side.result in
    let bottom = c.end_of-bottom.result in
    let block : IsMetBlock c.args.grid left right top bottom = met_block c.args.grid c.args.rect c.side-side.result left right top bottom has c.requires.within c.requires.some.0 c.requires.some.1 side-is refl c.end_of-right.ensures refl c.end_of-bottom.ensures in
    let numbers = row_numbers c.args.grid left right top bottom c.loop-row.row c.columns-columns.result c.columns-columns.ensures.value c.loop-row-test.true block in
    let small = c.len-count.ensures.small in
    let count-is = c.len-count.ensures.value in
    let order = block.across in
    omega arith

pub overflow_add-from : goal.overflow_add-from
overflow_add-from g c =
    let wide = c.width-width.ensures.some in
    let high = c.height-height.ensures.some in
    let least = c.side-side.ensures.some in
    let width-is = c.width-width.ensures.value in
    let height-is = c.height-height.ensures.value in
    let side-is = c.side-side.ensures.value in
    let has : HasTiles c.args.grid = record { wide = omega arith; high = omega arith; some = omega arith } in
    let left = c.args.rect.x / c.side-side.result in
    let right = c.end_of-right.result in
    let top = c.args.rect.y / c.side-side.result in
    let bottom = c.end_of-bottom.result in
    let block : IsMetBlock c.args.grid left right top bottom = met_block c.args.grid c.args.rect c.side-side.result left right top bottom has c.requires.within c.requires.some.0 c.requires.some.1 side-is refl c.end_of-right.ensures refl c.end_of-bottom.ensures in
    let numbers = row_numbers c.args.grid left right top bottom c.loop-row.row c.columns-columns.result c.columns-columns.ensures.value c.loop-row-test.true block in
    let small = c.len-count.ensures.small in
    let count-is = c.len-count.ensures.value in
    let order = block.across in
    omega arith

pub overflow_add-to : goal.overflow_add-to
overflow_add-to g c =
    let wide = c.width-width.ensures.some in
    let high = c.height-height.ensures.some in
    let least = c.side-side.ensures.some in
    let width-is = c.width-width.ensures.value in
    let height-is = c.height-height.ensures.value in
    let side-is = c.side-side.ensures.value in
    let has : HasTiles c.args.grid = record { wide = omega arith; high = omega arith; some = omega arith } in
    let left = c.args.rect.x / c.side-side.result in
    let right = c.end_of-right.result in
    let top = c.args.rect.y / c.side-side.result in
    let bottom = c.end_of-bottom.result in
    let block : IsMetBlock c.args.grid left right top bottom = met_block c.args.grid c.args.rect c.side-side.result left right top bottom has c.requires.within c.requires.some.0 c.requires.some.1 side-is refl c.end_of-right.ensures refl c.end_of-bottom.ensures in
    let numbers = row_numbers c.args.grid left right top bottom c.loop-row.row c.columns-columns.result c.columns-columns.ensures.value c.loop-row-test.true block in
    let small = c.len-count.ensures.small in
    let count-is = c.len-count.ensures.value in
    let order = block.across in
    omega arith

pub push_tiles-requires-clause-order : goal.push_tiles-requires-clause-order
push_tiles-requires-clause-order g c =
    let wide = c.width-width.ensures.some in
    let high = c.height-height.ensures.some in
    let least = c.side-side.ensures.some in
    let width-is = c.width-width.ensures.value in
    let height-is = c.height-height.ensures.value in
    let side-is = c.side-side.ensures.value in
    let has : HasTiles c.args.grid = record { wide = omega arith; high = omega arith; some = omega arith } in
    let left = c.args.rect.x / c.side-side.result in
    let right = c.end_of-right.result in
    let top = c.args.rect.y / c.side-side.result in
    let bottom = c.end_of-bottom.result in
    let block : IsMetBlock c.args.grid left right top bottom = met_block c.args.grid c.args.rect c.side-side.result left right top bottom has c.requires.within c.requires.some.0 c.requires.some.1 side-is refl c.end_of-right.ensures refl c.end_of-bottom.ensures in
    let numbers = row_numbers c.args.grid left right top bottom c.loop-row.row c.columns-columns.result c.columns-columns.ensures.value c.loop-row-test.true block in
    let small = c.len-count.ensures.small in
    let count-is = c.len-count.ensures.value in
    let order = block.across in
    omega arith

pub push_tiles-requires-clause-within : goal.push_tiles-requires-clause-within
push_tiles-requires-clause-within g c =
    let wide = c.width-width.ensures.some in
    let high = c.height-height.ensures.some in
    let least = c.side-side.ensures.some in
    let width-is = c.width-width.ensures.value in
    let height-is = c.height-height.ensures.value in
    let side-is = c.side-side.ensures.value in
    let has : HasTiles c.args.grid = record { wide = omega arith; high = omega arith; some = omega arith } in
    let left = c.args.rect.x / c.side-side.result in
    let right = c.end_of-right.result in
    let top = c.args.rect.y / c.side-side.result in
    let bottom = c.end_of-bottom.result in
    let block : IsMetBlock c.args.grid left right top bottom = met_block c.args.grid c.args.rect c.side-side.result left right top bottom has c.requires.within c.requires.some.0 c.requires.some.1 side-is refl c.end_of-right.ensures refl c.end_of-bottom.ensures in
    let numbers = row_numbers c.args.grid left right top bottom c.loop-row.row c.columns-columns.result c.columns-columns.ensures.value c.loop-row-test.true block in
    let small = c.len-count.ensures.small in
    let count-is = c.len-count.ensures.value in
    let order = block.across in
    omega arith

pub loop-row-init : goal.loop-row-init
loop-row-init g c =
    let left = c.args.rect.x / c.side-side.result in
    let top = c.args.rect.y / c.side-side.result in
    let none : c.in_ok-pieces.pieces.items ≡ [] = search rules in
    subst (λ (t : List (Patch _)). HasRowsMet c.args.grid (cells_of c.args.tiles.now) left c.end_of-right.result top top t) (sym none) (no_rows_met c.args.grid (cells_of c.args.tiles.now) left c.end_of-right.result top)

pub loop-row-preserved : goal.loop-row-preserved
loop-row-preserved g c =
    row_met c.args.grid (cells_of c.args.tiles.now) (c.args.rect.x / c.side-side.result) c.end_of-right.result (c.args.rect.y / c.side-side.result) c.loop-row.row c.columns-columns.result c.loop-row.pieces.items _ c.columns-columns.ensures.value c.loop-row.invariant c.in_ok-push_tiles.ensures

pub returns : goal.returns
returns g c =
    let wide = c.width-width.ensures.some in
    let high = c.height-height.ensures.some in
    let least = c.side-side.ensures.some in
    let width-is = c.width-width.ensures.value in
    let height-is = c.height-height.ensures.value in
    let side-is = c.side-side.ensures.value in
    let has : HasTiles c.args.grid = record { wide = omega arith; high = omega arith; some = omega arith } in
    let left = c.args.rect.x / c.side-side.result in
    let right = c.end_of-right.result in
    let top = c.args.rect.y / c.side-side.result in
    let bottom = c.end_of-bottom.result in
    let block : IsMetBlock c.args.grid left right top bottom = met_block c.args.grid c.args.rect c.side-side.result left right top bottom has c.requires.within c.requires.some.0 c.requires.some.1 side-is refl c.end_of-right.ensures refl c.end_of-bottom.ensures in
    let past = c.loop-row-test.false in
    let most = c.loop-row.auto.row-end block.down in
    let row-is : c.loop-row.row ≡ bottom = omega arith in
    let rows : HasRowsMet c.args.grid (cells_of c.args.tiles.now) left right top bottom c.loop-row.pieces.items = subst (λ n. HasRowsMet c.args.grid (cells_of c.args.tiles.now) left right top n c.loop-row.pieces.items) row-is c.loop-row.invariant in
    rows_are_met c.args.grid (cells_of c.args.tiles.now) c.args.rect c.side-side.result left right top bottom c.loop-row.pieces.items has c.requires.within side-is refl c.end_of-right.ensures refl c.end_of-bottom.ensures rows
