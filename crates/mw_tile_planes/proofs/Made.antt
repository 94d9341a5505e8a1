-- Planes whose tiles are what a step makes there.
use Rattle.std.proofs.Common.{◌≡◌, ℕ, ◌+◌, ◌*◌, ◌<◌, List, length, Some, false, refl, sym, ap, subst, arith, ◌∙◌}
use Rattle.std.proofs.lemmas.Nat.{mul-add-lt}
use Rattle.std.proofs.lemmas.Option.{slice_get-get_or}
use Rattle.mw_model.specs.declared.offsets.Rect.{Rect}
use Rattle.mw_model.specs.declared.shapes.Kind.{Kind}
use Rattle.mw_model.specs.Rectangles.{IsWithin}
use Rattle.mw_model.specs.Pictures.{Picture, drawn}
use Rattle.mw_model.specs.Plans.{plane_of, is_sum, no_picture, sight_of}
use Rattle.mw_model.specs.PlanSteps.{PlanStep, step_at}
use Rattle.mw_model.specs.Tasks.{cells_in, made_of_planes}
use Rattle.std.specs.Prelude.{slice_index_or, Option}
use Rattle.mw_model.proofs.ImagePlaces.{length-rows, sample-drawn}
use Rattle.mw_grid.specs.Grids.{Tiling, tile_at, tile_count}
use Rattle.mw_grid.proofs.Tiles.{HasTiles, tile_within}
use Rattle.mw_step_task.specs.mw_pixel.Images.{raster_of}
use Rattle.mw_step_task.proofs.mw_pixel.Cells.{slice_get-samples}
use Rattle.mw_step_task.specs.mw_tile.Windows.{IsCut}
use Rattle.mw_step_task.specs.mw_tile.Cuts.{view_of}
use Rattle.mw_step_task.proofs.mw_tile_pieces.TileCells.{length-cells_in, cells_in_at}
use Rattle.mw_tile_planes.specs.Tiles.{Tiled, tile_cells, ShowsTiles, IsPlaneOf, AreMade}

-- the values of a rectangle are a cut of the whole drawing
cut_of_drawn : (k : Kind) (m w h : ℕ) (value : ℕ → ℕ → ℕ) (r : Rect) → IsWithin r w h → IsCut (view_of w h r (cells_in r value)) (raster_of (drawn k w h m value))
cut_of_drawn k m w h value r within =
    let f = drawn k w h m value in
    let size : length f.samples ≡ h * w = length-rows value w 0 h in
    record {
      frame_width = refl;
      frame_height = refl;
      within = within;
      size = length-cells_in r value;
      same = λ i j across down.
          let over = within.across in
          let under = within.down in
          slice_get-get_or (cells_in r value) (j * r.width + i) 0 (omega (arith, length-cells_in r value, mul-add-lt j r.width i r.height down across))
          ∙ ap Some (cells_in_at r value i j across down)
          ∙ ap Some (sym (sample-drawn k w h m value (r.x + i) (r.y + j) (omega arith) (omega arith)))
          ∙ sym (slice_get-samples f size (r.x + i) (r.y + j) (omega arith) (omega arith));
    }

pub shows_drawn : (k : Kind) (m : ℕ) (value : ℕ → ℕ → ℕ) (g : Tiling) (tiles : List (Option (List ℕ))) → HasTiles g
    → ((i : ℕ) (cells : List ℕ) → i < tile_count g → tile_cells tiles i ≡ Some cells → cells ≡ cells_in (tile_at g i) value) → ShowsTiles g tiles (raster_of (drawn k g.width g.height m value))
shows_drawn k m value g tiles has made = record {
  width = refl;
  height = refl;
  shown = λ i cells lt found.
      subst (λ (c : List ℕ). IsCut (view_of g.width g.height (tile_at g i) c) (raster_of (drawn k g.width g.height m value))) (sym (made i cells lt found))
      (cut_of_drawn k m g.width g.height value (tile_at g i) (tile_within g i has lt));
}

-- what a step other than Sum makes in a tile
made_by_step : (s : PlanStep) (sources : List Picture) (r : Rect) → is_sum s ≡ false
    → made_of_planes s sources r ≡ cells_in r (step_at s (slice_index_or sources 0 no_picture).maxval (sight_of sources 0) (sight_of sources 1) (sight_of sources 2))
made_by_step s sources r e = rw e refl

plane_here : (p : Tiled) (s : PlanStep) (sources : List Picture) → HasTiles p.tiling → is_sum s ≡ false → (plane_of s sources p.tiling.width p.tiling.height).kind ≡ p.kind
    → (plane_of s sources p.tiling.width p.tiling.height).maxval ≡ p.maxval → AreMade s sources p → IsPlaneOf p (plane_of s sources p.tiling.width p.tiling.height)
plane_here p s sources has no_sum kind maxval made =
    let g = p.tiling in
    let value = step_at s (slice_index_or sources 0 no_picture).maxval (sight_of sources 0) (sight_of sources 1) (sight_of sources 2) in
    let f = plane_of s sources g.width g.height in
    record {
      size = length-rows value g.width 0 g.height;
      kind = kind;
      maxval = maxval;
      shows = shows_drawn f.kind f.maxval value g p.tiles has (λ i cells lt found. made i cells lt found ∙ made_by_step s sources (tile_at g i) no_sum);
    }

pub plane_is_made : (g : Tiling) (p : Tiled) (s : PlanStep) (sources : List Picture) → HasTiles g → p.tiling ≡ g → is_sum s ≡ false → (plane_of s sources g.width g.height).kind ≡ p.kind
    → (plane_of s sources g.width g.height).maxval ≡ p.maxval → AreMade s sources p → IsPlaneOf p (plane_of s sources g.width g.height)
plane_is_made g p s sources has same no_sum kind maxval made =
    subst (λ (t : Tiling). IsPlaneOf p (plane_of s sources t.width t.height)) same (plane_here p s sources (subst HasTiles (sym same) has) no_sum kind maxval made)
