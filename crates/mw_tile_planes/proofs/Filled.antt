-- A whole image of which the tiles are a part: it is 0 where no tile is placed.
use Rattle.std.proofs.Common.{◌≡◌, ℕ, ◌+◌, ◌-◌, ◌*◌, ◌<◌, ◌≤◌, All, List, length, Option, Some, None, get_or, refl, sym, ap, subst, arith, ◌∙◌, inl, inr}
use Rattle.std.proofs.lemmas.Bool.{cases_lt}
use Rattle.std.proofs.lemmas.List.{get_or_past}
use Rattle.std.proofs.lemmas.List.Elements.{All-from_get_or}
use Rattle.mw_model.specs.declared.offsets.Rect.{Rect}
use Rattle.mw_model.specs.Rectangles.{Holds, IsWithin}
use Rattle.mw_model.specs.Pictures.{Picture, sample, IsPicture}
use Rattle.mw_model.specs.Tasks.{cells_in}
use Rattle.mw_model.proofs.ImagePlaces.{length-rows, sample-drawn, by_places, sample_bounded}
use Rattle.mw_grid.specs.Grids.{Tiling, tile_count, tile_at}
use Rattle.mw_grid.proofs.Tiles.{HasTiles}
use Rattle.mw_step_task.specs.mw_tile.Windows.{SourceWindow, window_of}
use Rattle.mw_step_task.specs.WindowTasks.{IsBounded}
use Rattle.mw_step_task.proofs.mw_tile_pieces.TileCells.{length-cells_in, cells_in_is, cells_in_all}
use Rattle.mw_tile_slots.specs.Tiles.{HasSizes, tile_cells, tile_number_at}
use Rattle.mw_tile_slots.proofs.Numbers.{number_only}
use Rattle.mw_tile_planes.specs.Tiles.{Tiled, AreBounded, TiledIsSound, IsPlaneOf}
use Rattle.mw_tile_planes.specs.Filled.{cell_or, cell_in, filled_value, filled}
use Rattle.mw_tile_planes.proofs.Made.{shows_drawn}

filled_at : (g : Tiling) (tiles : List (Option (List ℕ))) (i : ℕ) (cells : List ℕ) (a b : ℕ) → 0 < g.side → tile_cells tiles i ≡ Some cells → a < (tile_at g i).width → b < (tile_at g i).height
    → get_or cells (b * (tile_at g i).width + a) 0 ≡ filled_value g tiles ((tile_at g i).x + a) ((tile_at g i).y + b)
filled_at g tiles i cells a b some found across down =
    let r = tile_at g i in
    let here : Holds r (r.x + a) (r.y + b) = record { left = omega arith; right = omega arith; top = omega arith; bottom = omega arith } in
    sym (
    ap (λ (n : ℕ). cell_in g tiles n (r.x + a) (r.y + b)) (number_only g i (r.x + a) (r.y + b) some here)
    ∙ ap (λ (o : Option (List ℕ)). cell_or o ((r.y + b - r.y) * r.width + (r.x + a - r.x))) found
    ∙ ap (λ (t : ℕ). get_or cells (t * r.width + (r.x + a - r.x)) 0) (back r.y b)
    ∙ ap (λ (t : ℕ). get_or cells (b * r.width + t) 0) (back r.x a)
    )
  where
    back : (m n : ℕ) → m + n - m ≡ n
    back m n = omega arith

filled_tiles : (g : Tiling) (tiles : List (Option (List ℕ))) → 0 < g.side → HasSizes g tiles → (i : ℕ) (cells : List ℕ) → i < tile_count g → tile_cells tiles i ≡ Some cells → cells ≡ cells_in (tile_at g i) (filled_value g tiles)
filled_tiles g tiles some sizes i cells lt found =
    sym (cells_in_is (tile_at g i) (filled_value g tiles) cells (sizes i cells lt found) (λ a b across down. filled_at g tiles i cells a b some found across down))

pub tiles_of_plane : (p : Tiled) → TiledIsSound p → HasTiles p.tiling
tiles_of_plane p sound = record { wide = sound.wide; high = sound.high; some = sound.some }

pub filled_is_plane : (p : Tiled) → TiledIsSound p → IsPlaneOf p (filled p)
filled_is_plane p sound =
    let g = p.tiling in
    let some : 0 < g.side = let least = sound.some in omega arith in
    record {
      size = length-rows (filled_value g p.tiles) g.width 0 g.height;
      kind = refl;
      maxval = refl;
      shows = shows_drawn p.kind p.maxval (filled_value g p.tiles) g p.tiles (tiles_of_plane p sound) (filled_tiles g p.tiles some sound.sizes);
    }

-- no cell of a tile is over the level
cell_bounded : (level : ℕ) (o : Option (List ℕ)) (k : ℕ) → ((cells : List ℕ) → o ≡ Some cells → All (λ n. n ≤ level) cells) → cell_or o k ≤ level
cell_bounded level None k all = omega arith
cell_bounded level (Some cells) k all =
    elim (cases_lt k (length cells)) [
      | inl within ↦ all cells refl k 0 within
      | inr past ↦ let zero-is : get_or cells k 0 ≡ 0 = get_or_past cells k 0 past in omega arith
    ]

filled_bounded : (g : Tiling) (tiles : List (Option (List ℕ))) (level x y : ℕ) → AreBounded level tiles → filled_value g tiles x y ≤ level
filled_bounded g tiles level x y bounded =
    let n = tile_number_at g x y in
    cell_bounded level (tile_cells tiles n) ((y - (tile_at g n).y) * (tile_at g n).width + (x - (tile_at g n).x)) (bounded n)

pub filled_is_picture : (p : Tiled) → TiledIsSound p → IsPicture (filled p)
filled_is_picture p sound =
    let g = p.tiling in
    let value = filled_value g p.tiles in
    let size : length (filled p).samples ≡ g.height * g.width = length-rows value g.width 0 g.height in
    record {
      size = size;
      bounded = All-from_get_or (λ n. n ≤ p.maxval) (filled p).samples 0
          (λ k lt. by_places (λ k. get_or (filled p).samples k 0 ≤ p.maxval) g.width g.height
          (λ x y across down. subst (λ (n : ℕ). n ≤ p.maxval) (sym (sample-drawn p.kind g.width g.height p.maxval value x y across down)) (filled_bounded g p.tiles p.maxval x y sound.bounded))
          k (omega arith));
    }

-- a window of each image with these tiles has no sample over the maxval
pub window_bounded : (p : Tiled) (r : Rect) (w : SourceWindow) → TiledIsSound p → IsWithin r p.tiling.width p.tiling.height → ((f : Picture) → IsPlaneOf p f → w ≡ window_of r f) → IsBounded w
window_bounded p r w sound within is =
    let f = filled p in
    let over = within.across in
    let under = within.down in
    subst IsBounded (sym (is f (filled_is_plane p sound)))
    (All-from_get_or (λ n. n ≤ p.maxval) (cells_in r (sample f)) 0
    (λ k lt. cells_in_all (λ n. n ≤ p.maxval) r (sample f) (λ i j across down. sample_bounded f (filled_is_picture p sound) (r.x + i) (r.y + j) (omega arith) (omega arith)) k (omega (arith, length-cells_in r (sample f)))))
