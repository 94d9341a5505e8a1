-- Extrema under full rectangles: those of the rectangle's box, and those of whole images.
use Rattle.std.proofs.Common.{◌≡◌, ℕ, ◌+◌, ◌*◌, ◌<◌, List, Option, map, length, fold, get_or, ap, sym, arith, ◌∙◌}
use Rattle.std.specs.Option.{unwrap_or}
use Rattle.std.proofs.lemmas.List.{length-map, map-id}
use Rattle.std.proofs.lemmas.Nat.{mul-add-lt}
use Rattle.std.proofs.lemmas.Option.{slice_get-get_or}
use Rattle.std.proofs.Math.Nat.{mul_comm}
use Rattle.mw_model.specs.declared.offsets.Offset.{Offset}
use Rattle.mw_model.specs.declared.offsets.Rect.{Rect}
use Rattle.mw_model.specs.Flat.{under}
use Rattle.mw_model.specs.Pictures.{Picture, sample}
use Rattle.mw_model.specs.Rasters.{Sight, raster, seen_under}
use Rattle.mw_model.specs.Tasks.{cells_in}
use Rattle.mw_model.specs.Windows.{View, seen_at}
use Rattle.mw_line.specs.Extrema.{IsSlidingExtremum}
use Rattle.mw_rank_lent.specs.mw_rank.Ranks.{levels_under}
use Rattle.mw_tile_pieces.proofs.TileCells.{cells_in_is}
use Rattle.mw_c_lent.specs.Boxes.{IsMadeUnder}
use Rattle.mw_c_lent.specs.InPlace.{IsWholeView}
use Rattle.mw_c_lent.specs.Rows.{IsStrip}
use Rattle.mw_c_lent.proofs.Views.{levels_whole}
use Rattle.mw_c_lent.proofs.Rows.{level_there}

-- ---- what is made of levels

-- an extremum of samples that are their levels
pub made_of_levels : (value : List ℕ → ℕ) (merge : ℕ → ℕ → ℕ) (neutral : ℕ) (sight : Sight ℕ) (element : List Offset) (tile : Rect) (cells : List ℕ) → ((ns : List ℕ) → fold merge neutral ns ≡ value ns)
    → IsSlidingExtremum merge neutral sight element tile (raster tile.width tile.height cells) → IsMadeUnder value (λ (n : ℕ). n) sight element tile cells
made_of_levels value merge neutral sight element tile cells folds slides = record { size = slides.size; cells = each }
  where
    each : (x y : ℕ) (d : ℕ) → x < tile.width → y < tile.height → get_or cells (y * tile.width + x) d ≡ value (levels_under (λ (n : ℕ). n) sight element (tile.x + x) (tile.y + y))
    each x y d across down =
        let size = slides.size in
        let within : y * tile.width + x < length cells = omega (arith, size, mul-add-lt y tile.width x tile.height down across, mul_comm tile.width tile.height) in
        ap (λ (o : Option ℕ). unwrap_or o 0) (sym (slice_get-get_or cells (y * tile.width + x) d within) ∙ slides.cells x y across down)
        ∙ folds (seen_under sight element (tile.x + x) (tile.y + y))
        ∙ ap value (sym (map-id (seen_under sight element (tile.x + x) (tile.y + y))))

-- what is made in a tile of whole rows, where the levels that are seen are those of an image
pub made_shown : {A : Type 0} (value : List ℕ → ℕ) (level : A → ℕ) (w : View A) (f g : Picture) (element : List Offset) (r : Rect) (cells : List A) → IsStrip r f
    → ((i j : ℕ) → i < r.width → j < r.height → levels_under level (seen_at w) element (r.x + i) (r.y + j) ≡ under f element (r.x + i) (r.y + j))
    → ((x y : ℕ) → x < f.width → y < f.height → value (under f element x y) ≡ sample g x y) → IsMadeUnder value level (seen_at w) element r cells → map level cells ≡ cells_in r (sample g)
made_shown {A} value level w f g element r cells strip shown is made =
    sym (cells_in_is r (sample g) (map level cells) (length-map cells level ∙ made.size) each)
  where
    each : (i j : ℕ) → i < r.width → j < r.height → get_or (map level cells) (j * r.width + i) 0 ≡ sample g (r.x + i) (r.y + j)
    each i j across down =
        let size = made.size in
        let within : j * r.width + i < length cells = omega (arith, size, mul-add-lt j r.width i r.height down across, mul_comm r.width r.height) in
        let left = strip.left in
        let wide = strip.wide in
        let low = strip.low in
        level_there level cells (j * r.width + i) (value (levels_under level (seen_at w) element (r.x + i) (r.y + j))) within (λ d. made.cells i j d across down)
        ∙ ap value (shown i j across down)
        ∙ is (r.x + i) (r.y + j) (omega arith) (omega arith)

-- and of a whole view
pub made_whole : {A : Type 0} (value : List ℕ → ℕ) (level : A → ℕ) (w : View A) (f g : Picture) (element : List Offset) (r : Rect) (cells : List A) → IsWholeView level w f → IsStrip r f
    → ((x y : ℕ) → x < f.width → y < f.height → value (under f element x y) ≡ sample g x y) → IsMadeUnder value level (seen_at w) element r cells → map level cells ≡ cells_in r (sample g)
made_whole value level w f g element r cells whole strip is made =
    made_shown value level w f g element r cells strip (λ i j across down. levels_whole level w f whole element (r.x + i) (r.y + j)) is made
