-- Tiles cover a frame once.
use Rattle.std.proofs.Common.{◌≡◌, ℕ, zero, suc, ◌+◌, ◌-◌, ◌*◌, ◌/◌, ◌%◌, ◌<◌, ◌≤◌, min, map, length, arith, sym, ap, subst, ◌∙◌, zero-add}
use Rattle.std.specs.List.{range_with_len, AllByRecursion}
use Rattle.std.proofs.lemmas.Nat.{div-mul-add, mod-mul-add, mod_below, div-add-mod'}
use Rattle.std.proofs.lemmas.List.FromFn.{length-map-range_with_len, get_or-map-range_with_len}
use Rattle.mw_model.specs.declared.offsets.Rect.{Rect}
use Rattle.mw_model.specs.Rectangles.{rect, tile_of, Holds, HoldsOnce, CoverOnce, IsWithin}
use Rattle.mw_grid.specs.Grids.{Tiling, columns_of, rows_of, tile_count, tile_at, tiles_of}
use Rattle.mw_grid.proofs.Lines.{piece_has, piece_only, piece_counts, piece_begins, number_of, row_less}

-- the column of a number
pub column_of_number : (r columns c : ℕ) → c < columns → (r * columns + c) % columns ≡ c
column_of_number r columns c lt = mod-mul-add r columns c lt

-- what the frame and the side of a tiling are at least
pub record HasTiles (g : Tiling) : Type 0 where
  pub wide : 1 ≤ g.width
  pub high : 1 ≤ g.height
  pub some : 1 ≤ g.side

pub some_tiles : (g : Tiling) → 0 < tile_count g
some_tiles g = more ((g.height - 1) / g.side) ((g.width - 1) / g.side)
  where
    more : (x y : ℕ) → 0 < (x + 1) * (y + 1)
    more x y = grind arith

-- a tile begins in the frame
pub tile_begins : (g : Tiling) (i : ℕ) → HasTiles g → i < tile_count g → (i % columns_of g * g.side < g.width) × (i / columns_of g * g.side < g.height)
tile_begins g i has lt =
    let some : 0 < g.side = has.some in (
      piece_begins g.width g.side (i % columns_of g) some has.wide (mod_below i (columns_of g) (omega arith)),
      piece_begins g.height g.side (i / columns_of g) some has.high (row_less (rows_of g) (columns_of g) i (omega arith) lt),
    )

pub tile_within : (g : Tiling) (i : ℕ) → HasTiles g → i < tile_count g → IsWithin (tile_at g i) g.width g.height
tile_within g i has lt = let begins = tile_begins g i has lt in record { across = omega (arith, begins.0); down = omega (arith, begins.1) }

pub rect_within : (g : Tiling) (i columns side ww hh w h : ℕ) → HasTiles g → i < tile_count g → columns ≡ columns_of g → side ≡ g.side → ww ≡ g.width → hh ≡ g.height
    → w ≡ min side (ww - i % columns * side) → h ≡ min side (hh - i / columns * side) → IsWithin (rect (i % columns * side) (i / columns * side) w h) g.width g.height
rect_within g i columns side ww hh w h has lt columns-is side-is ww-is hh-is w-is h-is = rw (w-is, h-is, columns-is, side-is, ww-is, hh-is) (tile_within g i has lt)

-- the tiles by their numbers
pub length-tiles_of : (g : Tiling) → length (tiles_of g) ≡ tile_count g
length-tiles_of g = length-map-range_with_len (tile_at g) 0 (tile_count g)

pub tile_of-tiles_of : (g : Tiling) (i : ℕ) → i < tile_count g → tile_of (tiles_of g) i ≡ tile_at g i
tile_of-tiles_of g i lt = get_or-map-range_with_len (tile_at g) 0 (tile_count g) i i (rect 0 0 0 0) lt (zero-add i)

all_from : (g : Tiling) (start n : ℕ) → HasTiles g → start + n ≤ tile_count g → AllByRecursion (λ r. IsWithin r g.width g.height) (map (tile_at g) (range_with_len start n))
all_from g start zero has le = tt
all_from g start (suc n) has le = (tile_within g start has (omega arith), all_from g (start + 1) n has (omega arith))

holds_once : (g : Tiling) (x y : ℕ) → HasTiles g → x < g.width → y < g.height → HoldsOnce (tiles_of g) x y
holds_once g x y has across down =
    let some : 0 < g.side = has.some in
    let columns = columns_of g in
    let c = x / g.side in
    let r = y / g.side in
    let c-lt : c < columns = piece_counts g.width g.side x some across in
    let r-lt : r < rows_of g = piece_counts g.height g.side y some down in
    let at-c : (r * columns + c) % columns ≡ c = column_of_number r columns c c-lt in
    let at-r : (r * columns + c) / columns ≡ r = div-mul-add r columns c c-lt in
    let h = piece_has g.width g.side x some across in
    let v = piece_has g.height g.side y some down in
    let number-lt : r * columns + c < tile_count g = number_of (rows_of g) columns c r c-lt r-lt in
    let here : Holds (tile_at g (r * columns + c)) x y = record { left = rw at-c h.0; right = rw at-c h.1; top = rw at-r v.0; bottom = rw at-r v.1 } in
    record {
      tile = r * columns + c;
      here = omega (arith, number-lt, length-tiles_of g);
      holds = subst (λ (t : Rect). Holds t x y) (sym (tile_of-tiles_of g (r * columns + c) number-lt)) here;
      only = λ j lt there.
          let j-lt : j < tile_count g = omega (arith, length-tiles_of g) in
          let holds = subst (λ (t : Rect). Holds t x y) (tile_of-tiles_of g j j-lt) there in
          let left = holds.left in
          let right = holds.right in
          let top = holds.top in
          let bottom = holds.bottom in
          let same-c : c ≡ j % columns = piece_only g.side x (j % columns) some left (omega arith) in
          let same-r : r ≡ j / columns = piece_only g.side y (j / columns) some top (omega arith) in
          sym (div-add-mod' j columns) ∙ ap (λ (t : ℕ). t * columns + j % columns) (sym same-r) ∙ ap (λ (t : ℕ). r * columns + t) (sym same-c);
    }

pub cover_once : (g : Tiling) → HasTiles g → CoverOnce (tiles_of g) g.width g.height
cover_once g has = record {
  within = all_from g 0 (tile_count g) has (omega arith);
  once = λ x y across down. holds_once g x y has across down;
}
