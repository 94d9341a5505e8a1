-- The tile that has a place, and what stands there.
use Rattle.std.proofs.Common.{◌≡◌, ℕ, ◌+◌, ◌-◌, ◌*◌, ◌/◌, ◌%◌, ◌<◌, ◌≤◌, List, Option, Some, None, get_or, min, refl, sym, ap, subst, arith, ◌∙◌}
use Rattle.std.proofs.Math.Nat.{lt-div-mul-add, mul-le-mul_left}
use Rattle.std.proofs.lemmas.Nat.{div-add-mod', div-mul-add, mod-mul-add}
use Rattle.std.proofs.lemmas.List.{get_or_default}
use Rattle.mw_model.specs.declared.offsets.Rect.{Rect}
use Rattle.mw_model.specs.Rectangles.{Holds}
use Rattle.mw_model.specs.Rasters.{Raster}
use Rattle.mw_model.specs.Windows.{View}
use Rattle.mw_grid.specs.Grids.{Tiling, columns_of, rows_of, tile_count, tile_at}
use Rattle.mw_grid.proofs.Lines.{piece_begins, piece_has, piece_counts, piece_only, number_of}
use Rattle.mw_grid.proofs.Tiles.{HasTiles}
use Rattle.mw_tile_pieces.specs.mw_tile.Windows.{IsCut}
use Rattle.mw_tile_pieces.specs.mw_tile.Cuts.{view_of}
use Rattle.mw_tile_slots.specs.Tiles.{HasSides, HasSidesOf, ShowsTiles, cells_of, tile_number_at}
use Rattle.mw_tile_slots.proofs.Sides.{cells_at}

pub number_within : (g : Tiling) (x y n side columns : ℕ) → HasTiles g → x < g.width → y < g.height → n ≡ y / side * columns + x / side → side ≡ g.side → columns ≡ columns_of g → n < tile_count g
number_within g x y n side columns has across down n-is side-is columns-is =
    let some : 0 < g.side = has.some in
    rw (n-is, side-is, columns-is) (number_of (rows_of g) (columns_of g) (x / g.side) (y / g.side) (piece_counts g.width g.side x some across) (piece_counts g.height g.side y some down))

pub number_holds : (g : Tiling) (x y n side columns : ℕ) → HasTiles g → x < g.width → y < g.height → n ≡ y / side * columns + x / side → side ≡ g.side → columns ≡ columns_of g → Holds (tile_at g n) x y
number_holds g x y n side columns has across down n-is side-is columns-is =
    let some : 0 < g.side = has.some in
    let c = x / g.side in
    let r = y / g.side in
    let c-lt : c < columns_of g = piece_counts g.width g.side x some across in
    let at-c : (r * columns_of g + c) % columns_of g ≡ c = mod-mul-add r (columns_of g) c c-lt in
    let at-r : (r * columns_of g + c) / columns_of g ≡ r = div-mul-add r (columns_of g) c c-lt in
    let h = piece_has g.width g.side x some across in
    let v = piece_has g.height g.side y some down in
    let here : Holds (tile_at g (r * columns_of g + c)) x y = record { left = rw at-c h.0; right = rw at-c h.1; top = rw at-r v.0; bottom = rw at-r v.1 } in
    rw (n-is, side-is, columns-is) here

-- a tile that begins in this column, and has row y so far under its top
pub record IsAlong (g : Tiling) (y at under n : ℕ) : Type 0 where
  pub within : n < tile_count g
  pub holds : Holds (tile_at g n) at y
  pub left : (tile_at g n).x ≡ at
  pub top : y - (tile_at g n).y ≡ under
  pub width : (tile_at g n).width ≡ min g.side (g.width - at)

-- the tiles that have a row follow one another
pub along_row : (g : Tiling) (y k n at under side columns : ℕ) → HasTiles g → y < g.height → k < columns → n ≡ y / side * columns + k → at ≡ k * side → under ≡ y % side → side ≡ g.side → columns ≡ columns_of g → IsAlong g y at under n
along_row g y k n at under side columns has down lt n-is at-is under-is side-is columns-is = record {
  within = number_within g at y n side columns has across down n-at side-is columns-is;
  holds = number_holds g at y n side columns has across down n-at side-is columns-is;
  left = ap (λ (t : ℕ). t * g.side) column ∙ sym begins;
  top = ap (λ (t : ℕ). y - t * g.side) row ∙ below ∙ sym (under-is ∙ ap (λ (t : ℕ). y % t) side-is);
  width = ap (λ (t : ℕ). min g.side (g.width - t * g.side)) column ∙ ap (λ (t : ℕ). min g.side (g.width - t)) (sym begins);
}
  where
    some : 0 < g.side
    some = has.some

    counts : k < columns_of g
    counts = omega (arith, columns-is)

    begins : at ≡ k * g.side
    begins = at-is ∙ ap (λ (t : ℕ). k * t) side-is

    across : at < g.width
    across = let first = piece_begins g.width g.side k some has.wide counts in omega (arith, begins)

    piece : at / side ≡ k
    piece = ap (λ (t : ℕ). at / t) side-is ∙ piece_only g.side at k some (omega (arith, begins)) (omega (arith, begins, some))

    n-at : n ≡ y / side * columns + at / side
    n-at = n-is ∙ ap (λ (t : ℕ). y / side * columns + t) (sym piece)

    same : n ≡ y / g.side * columns_of g + k
    same = n-is ∙ ap (λ (t : ℕ). y / t * columns + k) side-is ∙ ap (λ (t : ℕ). y / g.side * t + k) columns-is

    column : n % columns_of g ≡ k
    column = ap (λ (t : ℕ). t % columns_of g) same ∙ mod-mul-add (y / g.side) (columns_of g) k counts

    row : n / columns_of g ≡ y / g.side
    row = ap (λ (t : ℕ). t / columns_of g) same ∙ div-mul-add (y / g.side) (columns_of g) k counts

    below : y - y / g.side * g.side ≡ y % g.side
    below = let whole = div-add-mod' y g.side in omega arith

-- all tiles of a row are as wide as the frame
pub columns_fill : (g : Tiling) (k : ℕ) → HasTiles g → columns_of g ≤ k → min g.width (k * g.side) ≡ g.width
columns_fill g k has le =
    let some : 0 < g.side = has.some in
    let past : g.width - 1 < (g.width - 1) / g.side * g.side + g.side = lt-div-mul-add some in
    omega (arith, mul-le-mul_left g.side le)

-- a tile has each of its places alone
pub number_only : (g : Tiling) (i x y : ℕ) → 0 < g.side → Holds (tile_at g i) x y → tile_number_at g x y ≡ i
number_only g i x y some holds =
    let left = holds.left in
    let right = holds.right in
    let top = holds.top in
    let bottom = holds.bottom in
    let c = i % columns_of g in
    let r = i / columns_of g in
    let same-c : x / g.side ≡ c = piece_only g.side x c some left (omega arith) in
    let same-r : y / g.side ≡ r = piece_only g.side y r some top (omega arith) in
    ap (λ (t : ℕ). t * columns_of g + x / g.side) same-r ∙ ap (λ (t : ℕ). r * columns_of g + t) same-c ∙ div-add-mod' i (columns_of g)

-- the tile that was read from the list
pub found_at : {A : Type 0} (g : Tiling) (tiles : List (Option (Raster A))) (i : ℕ) (o : Option (Raster A)) (t p : Raster A) → HasSides g tiles → o ≡ get_or tiles i o → o ≡ Some t → p ≡ t → i < tile_count g → get_or tiles i None ≡ Some p
found_at g tiles i o t p has read is p-is lt = get_or_default tiles i None o (let count = has.count in omega arith) ∙ sym read ∙ is ∙ ap Some (sym p-is)

pub stands_at : {A : Type 0} (g : Tiling) (tiles : List (Option (Raster A))) (i : ℕ) (o : Option (Raster A)) (t p : Raster A) (r : Rect) → HasSides g tiles → o ≡ get_or tiles i o → o ≡ Some t → p ≡ t → r ≡ tile_at g i → i < tile_count g
    → HasSidesOf r p
stands_at g tiles i o t p r has read is p-is r-is lt = subst (λ (s : Rect). HasSidesOf s p) (sym r-is) (has.sides i p (found_at g tiles i o t p has read is p-is lt))

-- the tile that was read from the list at its number stands in its rectangle
pub whole_stands : {A : Type 0} (g : Tiling) (tiles : List (Option (Raster A))) (i : ℕ) (o : Option (Raster A)) (t : Raster A) (q r : Rect) → HasSides g tiles → o ≡ get_or tiles i o → o ≡ Some t → q ≡ tile_at g i → q ≡ r → i < tile_count g → HasSidesOf r t
whole_stands g tiles i o t q r has read is q-is same lt = subst (λ (s : Rect). HasSidesOf s t) (sym q-is ∙ same) (has.sides i t (found_at g tiles i o t t has read is refl lt))

-- and is what each whole frame with these tiles has there
pub whole_shows : {A : Type 0} (g : Tiling) (tiles : List (Option (Raster A))) (i : ℕ) (o : Option (Raster A)) (t : Raster A) (q r : Rect) → HasSides g tiles → o ≡ get_or tiles i o → o ≡ Some t → q ≡ tile_at g i → q ≡ r → i < tile_count g
    → (f : Raster A) → ShowsTiles g (cells_of tiles) f → IsCut (view_of g.width g.height r t.cells) f
whole_shows {A} g tiles i o t q r has read is q-is same lt f shows =
    let cut : IsCut (view_of f.width f.height (tile_at g i) t.cells) f = shows.shown i t.cells lt (cells_at tiles i t (found_at g tiles i o t t has read is refl lt)) in
    subst (λ (v : View A). IsCut v f)
    (ap (λ (s : Rect). view_of f.width f.height s t.cells) (sym q-is ∙ same) ∙ ap (λ (m : ℕ). view_of m f.height r t.cells) shows.width ∙ ap (λ (n : ℕ). view_of g.width n r t.cells) shows.height)
    cut
