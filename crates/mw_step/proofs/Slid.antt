-- Planes of extrema and of ranks of what a window shows.
use Rattle.std.proofs.Common.{◌≡◌, ℕ, ◌+◌, ◌*◌, ◌<◌, List, Some, slice_get, fold, ap, arith, ◌∙◌}
use Rattle.std.proofs.lemmas.List.{map-id}
use Rattle.std.proofs.lemmas.Nat.{mul-add-lt}
use Rattle.std.proofs.lemmas.Option.{slice_get-get_or}
use Rattle.mw_model.specs.declared.offsets.Offset.{Offset}
use Rattle.mw_model.specs.declared.offsets.Rect.{Rect}
use Rattle.mw_model.specs.declared.shapes.Kind.{Kind}
use Rattle.mw_model.specs.PlanSteps.{ranked}
use Rattle.mw_model.specs.Rasters.{Raster, seen_under}
use Rattle.mw_model.specs.Windows.{View, seen_at}
use Rattle.mw_model.specs.Pictures.{picture}
use Rattle.mw_step_task.specs.mw_tile.Windows.{SourceWindow}
use Rattle.mw_step_task.specs.Products.{tile_drawn}
use Rattle.mw_rank_bits.specs.mw_line.Extrema.{IsSlidingExtremum}
use Rattle.mw_rank_rows.specs.mw_rank.Ranks.{IsRank}
use Rattle.mw_step_task.proofs.mw_tile_pieces.Windows.{source_window}
use Rattle.mw_step.proofs.Images.{slid_plane}

-- of an extremum, which of levels up to the maxval is what it is said to be
pub slid_extremum : (of_seen : ℕ → List ℕ → ℕ) (merge : ℕ → ℕ → ℕ) (neutral : ℕ) (offsets : List Offset) (u : SourceWindow) (kind : Kind) (maxval : ℕ) (w : View ℕ) (tile : Rect) (p : Raster ℕ) → u ≡ source_window kind maxval w
    → ((ns : List ℕ) → fold merge neutral ns ≡ of_seen maxval ns) → IsSlidingExtremum merge neutral (seen_at w) offsets tile p
    → tile_drawn u.kind u.maxval tile (λ x y. of_seen u.maxval (seen_under (seen_at u.view) offsets x y)) ≡ picture kind p.width p.height maxval p.cells
slid_extremum of_seen merge neutral offsets u kind maxval w tile p is folds slides =
    slid_plane u kind maxval w tile (λ m v x y. of_seen m (seen_under (seen_at v) offsets x y)) p is slides.width slides.height slides.size
    (λ x y across down. slides.cells x y across down ∙ ap (λ (t : ℕ). Some t) (folds (seen_under (seen_at w) offsets (tile.x + x) (tile.y + y))))

rank_cells : (k : ℕ) (w : View ℕ) (offsets element : List Offset) (tile : Rect) (p : Raster ℕ) → offsets ≡ element → IsRank (λ (n : ℕ). n) k (seen_at w) offsets tile p → (x y : ℕ) → x < tile.width → y < tile.height
    → slice_get p.cells (y * tile.width + x) ≡ Some (ranked k (seen_under (seen_at w) element (tile.x + x) (tile.y + y)))
rank_cells k w offsets element tile p same is x y across down =
    let size = is.size in
    slice_get-get_or p.cells (y * tile.width + x) 0 (omega (arith, mul-add-lt y tile.width x tile.height down across))
    ∙ ap (λ (t : ℕ). Some t) (is.cells x y 0 across down
    ∙ ap (λ (t : List ℕ). ranked k t) (map-id (seen_under (seen_at w) offsets (tile.x + x) (tile.y + y)))
    ∙ ap (λ (t : List Offset). ranked k (seen_under (seen_at w) t (tile.x + x) (tile.y + y))) same)

-- of ranks
pub slid_rank : (k : ℕ) (offsets element : List Offset) (u : SourceWindow) (kind : Kind) (maxval : ℕ) (w : View ℕ) (tile : Rect) (p : Raster ℕ) → u ≡ source_window kind maxval w → offsets ≡ element → IsRank (λ (n : ℕ). n) k (seen_at w) offsets tile p
    → tile_drawn u.kind u.maxval tile (λ x y. ranked k (seen_under (seen_at u.view) element x y)) ≡ picture kind p.width p.height maxval p.cells
slid_rank k offsets element u kind maxval w tile p is same ranks =
    slid_plane u kind maxval w tile (λ m v x y. ranked k (seen_under (seen_at v) element x y)) p is ranks.width ranks.height ranks.size (rank_cells k w offsets element tile p same ranks)
