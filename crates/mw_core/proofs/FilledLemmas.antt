-- A plane of which all tiles are placed is the image that has these tiles.
use Rattle.std.proofs.Common.{◌≡◌, ℕ, ◌+◌, ◌-◌, ◌*◌, ◌/◌, ◌%◌, ◌<◌, List, length, Option, Some, None, IsSome, refl, sym, ap, ◌∙◌, arith}
use Rattle.std.specs.Prelude.{slice_get}
use Rattle.std.proofs.lemmas.Nat.{div-mul-add}
use Rattle.std.proofs.lemmas.Option.{get_or_from_slice_get}
use Rattle.mw_model.specs.Rectangles.{Holds}
use Rattle.mw_model.specs.Pictures.{Picture, sample}
use Rattle.mw_model.proofs.ImagePlaces.{length-rows, sample-drawn, same_picture}
use Rattle.mw_grid.specs.Grids.{Tiling, columns_of, rows_of, tile_at, tile_count}
use Rattle.mw_grid.proofs.Lines.{piece_counts, piece_has, number_of}
use Rattle.mw_grid.proofs.Tiles.{HasTiles, column_of_number}
use Rattle.mw_core_refusals.specs.mw_pixel.Images.{raster_of}
use Rattle.mw_core_refusals.proofs.mw_pixel.Cells.{slice_get-samples}
use Rattle.mw_core_refusals.specs.mw_tile_planes.Tiles.{Tiled, AllPlaced, IsPlaneOf, ShowsTiles, tile_cells}
use Rattle.mw_core_refusals.specs.mw_tile_planes.Filled.{cell_in, cell_or, filled, filled_value, tile_number_at}

-- each place of the frame is in the tile of its number
tile-holds : (g : Tiling) (x y : ℕ) → HasTiles g → x < g.width → y < g.height → (tile_number_at g x y < tile_count g) × Holds (tile_at g (tile_number_at g x y)) x y
tile-holds g x y has across down =
    let some : 0 < g.side = has.some in
    let columns = columns_of g in
    let c = x / g.side in
    let r = y / g.side in
    let before : c < columns = piece_counts g.width g.side x some across in
    let above : r < rows_of g = piece_counts g.height g.side y some down in
    let column : (r * columns + c) % columns ≡ c = column_of_number r columns c before in
    let row : (r * columns + c) / columns ≡ r = div-mul-add r columns c before in
    let h = piece_has g.width g.side x some across in
    let v = piece_has g.height g.side y some down in
    (number_of (rows_of g) columns c r before above, record { left = rw column h.0; right = rw column h.1; top = rw row v.0; bottom = rw row v.1 })

-- what a tile that is placed has at a place is what the image has there
cell-shown : (g : Tiling) (tiles : List (Option (List ℕ))) (f : Picture) (i : ℕ) (cells : List ℕ) (x y : ℕ) → length f.samples ≡ f.height * f.width → ShowsTiles g tiles (raster_of f) → i < tile_count g
    → tile_cells tiles i ≡ Some cells → Holds (tile_at g i) x y → x < f.width → y < f.height → cell_in g tiles i x y ≡ sample f x y
cell-shown g tiles f i cells x y size shows within found holds across down =
    let r = tile_at g i in
    let left = holds.left in
    let right = holds.right in
    let top = holds.top in
    let bottom = holds.bottom in
    let cut = shows.shown i cells within found in
    let column : r.x + (x - r.x) ≡ x = omega arith in
    let row : r.y + (y - r.y) ≡ y = omega arith in
    let same : slice_get cells ((y - r.y) * r.width + (x - r.x)) ≡ Some (sample f x y)
    = cut.same (x - r.x) (y - r.y) (omega arith) (omega arith)
    ∙ ap (λ (n : ℕ). slice_get f.samples (n * f.width + (r.x + (x - r.x)))) row
    ∙ ap (λ (n : ℕ). slice_get f.samples (y * f.width + n)) column
    ∙ slice_get-samples f size x y across down in
    ap (λ (o : Option (List ℕ)). cell_or o ((y - r.y) * r.width + (x - r.x))) found ∙ get_or_from_slice_get cells ((y - r.y) * r.width + (x - r.x)) (sample f x y) 0 same

-- the cells of a tile that is placed
cells-there : (o : Option (List ℕ)) → IsSome o → (cells : List ℕ) × (o ≡ Some cells)
cells-there None h = absurd cc
cells-there (Some cells) h = (cells, refl)

pub full-filled : (p : Tiled) (f : Picture) → HasTiles p.tiling → AllPlaced p → IsPlaneOf p f → filled p ≡ f
full-filled p f has full is =
    let g = p.tiling in
    let value = filled_value g p.tiles in
    let wide = is.shows.width in
    let high = is.shows.height in
    same_picture (filled p) f (record { kind = sym is.kind; width = sym wide; height = sym high; maxval = sym is.maxval }) (length-rows value g.width 0 g.height) is.size (λ x y across down.
    let at = tile-holds g x y has across down in
    let i = tile_number_at g x y in
    let placed = cells-there (tile_cells p.tiles i) (full.each i at.0) in
    sample-drawn p.kind g.width g.height p.maxval value x y across down
    ∙ cell-shown g p.tiles f i placed.0 x y is.size is.shows at.0 placed.1 at.1 (omega (arith, across, wide)) (omega (arith, down, high)))
