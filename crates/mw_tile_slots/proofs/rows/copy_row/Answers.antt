use Rattle.std.proofs.Common.{◌≡◌, ℕ, ◌+◌, ◌-◌, ◌*◌, ◌/◌, ◌%◌, ◌≤◌, min, ap, refl, sym, subst, arith, ◌∙◌}
use Rattle.mw_model.specs.Rasters.{Raster}
use Rattle.mw_grid.specs.Grids.{tile_at}
use Rattle.mw_grid.proofs.Tiles.{HasTiles}
use Rattle.mw_tile_pieces.specs.mw_tile.Windows.{IsCut}
use Rattle.mw_tile_pieces.specs.mw_tile.Cuts.{view_of}
use Rattle.mw_tile_slots.specs.Rows.{HasFirstOfRow}
use Rattle.mw_tile_slots.specs.Tiles.{cells_of, HasSidesOf}
use Rattle.mw_tile_slots.proofs.Numbers.{along_row, columns_fill}
use Rattle.mw_tile_slots.proofs.ReadRows.{no_cells_yet, row_more}
use Rattle.mw_tile_slots.proofs.rows.copy_row.Goals as goal

pub loop-column-init : goal.loop-column-init
loop-column-init g c =
    let none : 0 ≡ min c.args.grid.width (0 * c.args.grid.side) = omega arith in
    subst (λ (m : ℕ). HasFirstOfRow c.args.grid (cells_of c.args.tiles.now) c.args.y m c.args.out.now) none
    (no_cells_yet c.args.grid (cells_of c.args.tiles.now) c.args.y c.args.out.now c.requires.width c.requires.height c.height-size.ensures.size)

pub tile_of-requires-clause-within : goal.tile_of-requires-clause-within
tile_of-requires-clause-within g c =
    let has : HasTiles c.args.grid = record { wide = omega arith; high = omega arith; some = omega arith } in
    (along_row c.args.grid c.args.y c.loop-column.column _ _ _ c.side-side.result c.columns-columns.result has c.requires.down c.loop-column-test.true refl refl refl c.side-side.ensures.value c.columns-columns.ensures.value).within

pub tile_of-requires-clause-placed : goal.tile_of-requires-clause-placed
tile_of-requires-clause-placed g c =
    let has : HasTiles c.args.grid = record { wide = omega arith; high = omega arith; some = omega arith } in
    let side = c.side-side.result in
    let n = c.args.y / side * c.columns-columns.result + c.loop-column.column in
    let at = c.loop-column.column * side in
    let along = along_row c.args.grid c.args.y c.loop-column.column n at (c.args.y % side) side c.columns-columns.result has c.requires.down c.loop-column-test.true refl refl refl c.side-side.ensures.value c.columns-columns.ensures.value in
    c.requires.placed at (omega arith) (omega (arith, along.holds.right, along.left, along.width)) n along.within along.holds

pub copy_run-requires-clause-across_other : goal.copy_run-requires-clause-across_other
copy_run-requires-clause-across_other g c =
    let has : HasTiles c.args.grid = record { wide = omega arith; high = omega arith; some = omega arith } in
    let side = c.side-side.result in
    let n = c.args.y / side * c.columns-columns.result + c.loop-column.column in
    let at = c.loop-column.column * side in
    let along = along_row c.args.grid c.args.y c.loop-column.column n at (c.args.y % side) side c.columns-columns.result has c.requires.down c.loop-column-test.true refl refl refl c.side-side.ensures.value c.columns-columns.ensures.value in
    let stands : HasSidesOf (tile_at c.args.grid n) c.plane-tile.result.now = subst (HasSidesOf (tile_at c.args.grid n)) (sym c.plane-tile.ensures) c.tile_of.ensures.stands in
    omega (arith, along.width, stands.width, c.min.ensures, c.side-side.ensures.value, c.width-width.ensures.value)

pub copy_run-requires-clause-down_other : goal.copy_run-requires-clause-down_other
copy_run-requires-clause-down_other g c =
    let has : HasTiles c.args.grid = record { wide = omega arith; high = omega arith; some = omega arith } in
    let side = c.side-side.result in
    let n = c.args.y / side * c.columns-columns.result + c.loop-column.column in
    let at = c.loop-column.column * side in
    let along = along_row c.args.grid c.args.y c.loop-column.column n at (c.args.y % side) side c.columns-columns.result has c.requires.down c.loop-column-test.true refl refl refl c.side-side.ensures.value c.columns-columns.ensures.value in
    let stands : HasSidesOf (tile_at c.args.grid n) c.plane-tile.result.now = subst (HasSidesOf (tile_at c.args.grid n)) (sym c.plane-tile.ensures) c.tile_of.ensures.stands in
    omega (arith, along.top, along.holds.top, along.holds.bottom, stands.height)

pub loop-column-preserved : goal.loop-column-preserved
loop-column-preserved g c =
    let has : HasTiles c.args.grid = record { wide = omega arith; high = omega arith; some = omega arith } in
    let grid = c.args.grid in
    let tiles = cells_of c.args.tiles.now in
    let y = c.args.y in
    let k = c.loop-column.column in
    let side = c.side-side.result in
    let n = y / side * c.columns-columns.result + k in
    let at = k * side in
    let count = c.min.result in
    let t = c.plane-tile.result.now in
    let place = tile_at grid n in
    let along = along_row grid y k n at (y % side) side c.columns-columns.result has c.requires.down c.loop-column-test.true refl refl refl c.side-side.ensures.value c.columns-columns.ensures.value in
    let stands : HasSidesOf place t = subst (HasSidesOf place) (sym c.plane-tile.ensures) c.tile_of.ensures.stands in
    let begins : k * grid.side ≡ at = ap (λ (s : ℕ). k * s) (sym c.side-side.ensures.value) in
    let room : at + count ≤ grid.width = omega (arith, along.holds.right, along.left, along.width, c.min.ensures, c.width-width.ensures.value) in
    let here : min grid.width (k * grid.side) ≡ at = omega (arith, begins, room) in
    let next : at + count ≡ min grid.width ((k + 1) * grid.side) = omega (arith, begins, c.min.ensures, c.side-side.ensures.value, c.width-width.ensures.value, room) in
    let from : y % side * t.width + 0 ≡ (y - place.y) * t.width + (at - place.x) = ap (λ (v : ℕ). v * t.width + 0) (sym along.top) ∙ ap (λ (u : ℕ). (y - place.y) * t.width + u) (let left = along.left in omega arith) in
    subst (λ (m : ℕ). HasFirstOfRow grid tiles y m c.copy_run.new.self) next
    (row_more grid tiles t c.loop-column.out c.copy_run.new.self place y at count (y % side * t.width + 0) stands along.holds (omega (arith, along.left, along.width, c.min.ensures, c.side-side.ensures.value, c.width-width.ensures.value)) room
    (λ f shows. subst (λ (u : Raster _). IsCut (view_of grid.width grid.height place u.cells) f) (sym c.plane-tile.ensures) (c.tile_of.ensures.value f shows)) from c.copy_run.ensures
    (subst (λ (m : ℕ). HasFirstOfRow grid tiles y m c.loop-column.out) here c.loop-column.invariant))

pub returns : goal.returns
returns g c =
    let has : HasTiles c.args.grid = record { wide = omega arith; high = omega arith; some = omega arith } in
    subst (λ (m : ℕ). HasFirstOfRow c.args.grid (cells_of c.args.tiles.now) c.args.y m c.loop-column.out) (columns_fill c.args.grid c.loop-column.column has (omega (arith, c.loop-column-test.false, c.columns-columns.ensures.value)))
    c.loop-column.invariant
