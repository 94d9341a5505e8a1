-- Sliding extrema of levels, and the operators.
use Rattle.std.proofs.Common.{◌≡◌, ℕ, ◌+◌, ◌*◌, ◌<◌, List, [], ◌∷◌, Some, min, max, fold, slice_get, refl, ap, sym, arith, ◌∙◌}
use Rattle.mw_model.specs.declared.offsets.Offset.{Offset}
use Rattle.mw_model.specs.declared.offsets.Rect.{Rect}
use Rattle.mw_model.specs.Flat.{under, least, greatest, erosion, dilation}
use Rattle.mw_model.specs.Pictures.{Picture, IsPicture, sample}
use Rattle.mw_model.specs.Rectangles.{IsWithin}
use Rattle.mw_model.specs.Rasters.{Raster, cell_at}
use Rattle.mw_model.proofs.ImagePlaces.{sample-redrawn}
use Rattle.mw_tile.specs.mw_pixel.Images.{raster_of}
use Rattle.mw_tile.proofs.mw_pixel.Cells.{seen_under-raster_of}
use Rattle.mw_line.specs.Extrema.{IsSlidingExtremum}
use Rattle.mw_line.proofs.Folds.{IsExtremum, fold_first}

min_laws : IsExtremum min
min_laws = record { commutes = λ a b. omega arith; associates = λ a b c. omega arith; is_idempotent = λ a. omega arith }

max_laws : IsExtremum max
max_laws = record { commutes = λ a b. omega arith; associates = λ a b c. omega arith; is_idempotent = λ a. omega arith }

pub fold-min : (top : ℕ) (ns : List ℕ) → fold min top ns ≡ least top ns
fold-min top [] = refl
fold-min top (n ∷ ns) = fold_first min min_laws top n ns ∙ ap (min n) (fold-min top ns)

pub fold-max : (ns : List ℕ) → fold max 0 ns ≡ greatest ns
fold-max [] = refl
fold-max (n ∷ ns) = fold_first max max_laws 0 n ns ∙ ap (max n) (fold-max ns)

pub minimum_is_erosion : (f : Picture) (element : List Offset) (tile : Rect) (r : Raster ℕ) → IsPicture f → IsWithin tile f.width f.height → IsSlidingExtremum min f.maxval (cell_at (raster_of f)) element tile r
    → (x y : ℕ) → x < tile.width → y < tile.height → slice_get r.cells (y * tile.width + x) ≡ Some (sample (erosion element f) (tile.x + x) (tile.y + y))
minimum_is_erosion f element tile r picture within made x y less row_less =
    made.cells x y less row_less
    ∙ ap (λ (t : List ℕ). Some (fold min f.maxval t)) (seen_under-raster_of f picture.size element (tile.x + x) (tile.y + y))
    ∙ ap Some (fold-min f.maxval (under f element (tile.x + x) (tile.y + y)))
    ∙ ap Some (sym (sample-redrawn f (λ i j. least f.maxval (under f element i j)) (tile.x + x) (tile.y + y) (omega (arith, within.across)) (omega (arith, within.down))))

pub maximum_is_dilation : (f : Picture) (element : List Offset) (tile : Rect) (r : Raster ℕ) → IsPicture f → IsWithin tile f.width f.height → IsSlidingExtremum max 0 (cell_at (raster_of f)) element tile r
    → (x y : ℕ) → x < tile.width → y < tile.height → slice_get r.cells (y * tile.width + x) ≡ Some (sample (dilation element f) (tile.x + x) (tile.y + y))
maximum_is_dilation f element tile r picture within made x y less row_less =
    made.cells x y less row_less
    ∙ ap (λ (t : List ℕ). Some (fold max 0 t)) (seen_under-raster_of f picture.size element (tile.x + x) (tile.y + y))
    ∙ ap Some (fold-max (under f element (tile.x + x) (tile.y + y)))
    ∙ ap Some (sym (sample-redrawn f (λ i j. greatest (under f element i j)) (tile.x + x) (tile.y + y) (omega (arith, within.across)) (omega (arith, within.down))))
