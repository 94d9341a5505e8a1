-- A row that was read from tiles is that of each whole frame with these tiles.
use Rattle.std.proofs.Common.{◌≡◌, ℕ, ◌+◌, ◌-◌, ◌*◌, ◌<◌, ◌≤◌, List, length, Option, take, drop, slice_get, slice_range, refl, sym, ap, arith, ◌∙◌, length-drop}
use Rattle.std.proofs.lemmas.List.{length-take-le}
use Rattle.mw_model.proofs.mw_facts.Elements.{same_elements, slice_get-drop, slice_get-take}
use Rattle.mw_model.proofs.mw_facts.Parts.{length-put_mid}
use Rattle.mw_grid.specs.Grids.{Tiling}
use Rattle.mw_model.specs.declared.offsets.Rect.{Rect}
use Rattle.mw_model.specs.Rectangles.{Holds}
use Rattle.mw_model.specs.Rasters.{Raster, raster}
use Rattle.mw_tile_pieces.specs.Patches.{patch, cell_of, frame_value}
use Rattle.mw_tile_pieces.proofs.Patches.{row_of_plane, run_in, run_size, RowIs}
use Rattle.mw_tile_pieces.specs.mw_tile.Windows.{IsCut}
use Rattle.mw_tile_pieces.specs.mw_tile.Cuts.{view_of}
use Rattle.mw_tile_slots.specs.Rows.{AreCutFrom, HasFirstOfRow, TileCells}
use Rattle.mw_tile_slots.specs.Tiles.{HasSidesOf, ShowsTiles}
use Rattle.mw_tile_slots.proofs.Sharing.{cut_cell}
use Rattle.mw_tile_pieces.specs.mw_pixel_words.Runs.{put_at}
use Rattle.mw_tile_pieces.proofs.mw_pixel_words.Bits.{rows_fit}
use Rattle.mw_tile_pieces.proofs.mw_pixel_words.Fronts.{front_more}

pub no_cells_yet : {A : Type 0} (g : Tiling) (tiles : List (Option (List A))) (y : ℕ) (p : Raster A) → p.width ≡ g.width → p.height ≡ 1 → length p.cells ≡ p.height * p.width → HasFirstOfRow g tiles y 0 p
no_cells_yet g tiles y p width height size =
    let all : length p.cells ≡ g.width = size ∙ ap (λ (n : ℕ). n * p.width) height ∙ omega (arith, width) in
    record { width = width; height = height; size = all; shows = λ f shows. record { size = all; same = λ k lt. absurd (omega arith) } }

-- one tile more
pub row_more : {A : Type 0} (g : Tiling) (tiles : List (Option (List A))) (t now out : Raster A) (place : Rect) (y at n a : ℕ) → HasSidesOf place t → Holds place at y → at + n ≤ place.x + place.width → at + n ≤ g.width
    → ((f : Raster A) → ShowsTiles g tiles f → IsCut (view_of g.width g.height place t.cells) f) → a ≡ (y - place.y) * t.width + (at - place.x) → out ≡ raster now.width now.height (put_at (0 * now.width + at) (slice_range t.cells a (a + n)) now.cells)
    → HasFirstOfRow g tiles y at now → HasFirstOfRow g tiles y (at + n) out
row_more {A} g tiles t now out place y at n a stands holds fits room cut a-is out-is before =
    let from = holds.left in
    let above = holds.top in
    let under = holds.bottom in
    let wide = stands.width in
    let high = stands.height in
    let part = run_in t.cells place t.width at y n in
    let t-size : length t.cells ≡ t.height * t.width = stands.size ∙ ap (λ (k : ℕ). k * place.width) (sym high) ∙ ap (λ (k : ℕ). t.height * k) (sym wide) in
    let len : length part ≡ n = run_size t.cells place t.width t.height at y n t-size (omega arith) (omega arith) in
    let row : RowIs (cell_of (patch place t.cells)) at y n part = row_of_plane t.cells part place at y n t.width wide from refl in
    let cells-is : out.cells ≡ put_at at part now.cells = ap (λ (p : Raster A). p.cells) out-is ∙ ap (λ (b : ℕ). put_at (0 * now.width + at) (slice_range t.cells b (b + n)) now.cells) a-is ∙ ap (λ (b : ℕ). put_at b part now.cells) (only now.width) in
    let size = before.size in
    record {
      width = ap (λ (p : Raster A). p.width) out-is ∙ before.width;
      height = ap (λ (p : Raster A). p.height) out-is ∙ before.height;
      size = ap length cells-is ∙ length-put_mid at (length part) now.cells part refl (omega arith) ∙ size;
      shows = λ f shows.
          front_more (λ k. frame_value f k y) at n g.width now.cells out.cells part cells-is len room
          (λ k lt. row k lt ∙ cut_cell f g.width g.height (patch place t.cells) (at + k) y (cut f shows) (record { left = omega arith; right = omega arith; top = above; bottom = under })) (before.shows f shows);
    }
  where
    only : (w : ℕ) → 0 * w + at ≡ at
    only w = omega arith

-- all tiles are the row
pub row_is : {A : Type 0} (t : TileCells A) (f : Raster A) (y : ℕ) (p : Raster A) → y < t.tiling.height → AreCutFrom f t → HasFirstOfRow t.tiling t.tiles y t.tiling.width p → p.cells ≡ take f.width (drop (y * f.width) f.cells)
row_is {A} t f y p down cut row = same_elements p.cells (take f.width (drop (y * f.width) f.cells)) (count ∙ sym size) each
  where
    shows : ShowsTiles t.tiling t.tiles f
    shows = cut.shows

    count : length p.cells ≡ f.width
    count = row.size ∙ sym shows.width

    fits : y * f.width + f.width ≤ length f.cells
    fits = let size = cut.size in let below = rows_fit y f.height f.width (let high = shows.height in omega arith) in omega arith

    size : length (take f.width (drop (y * f.width) f.cells)) ≡ f.width
    size = length-take-le f.width (drop (y * f.width) f.cells) (let le = fits in omega (arith, length-drop (y * f.width) f.cells))

    each : (k : ℕ) → k < length p.cells → slice_get p.cells k ≡ slice_get (take f.width (drop (y * f.width) f.cells)) k
    each k lt =
        let within : k < f.width = let e = count in omega arith in
        (row.shows f shows).same k (let e = row.size in omega arith) ∙ sym (slice_get-take f.width (drop (y * f.width) f.cells) k within ∙ slice_get-drop (y * f.width) f.cells k)
