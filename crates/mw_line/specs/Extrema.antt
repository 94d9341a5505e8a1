-- Extrema of samples that stand equally far apart, and of what is seen under an element at each place of a tile.
use Rattle.std.specs.Prelude.{◌≡◌, ℕ, zero, suc, ◌+◌, ◌-◌, ◌*◌, ◌<◌, List, length, fold, Some, slice_get, slice_index_or}
use Rattle.mw_model.specs.declared.offsets.Offset.{Offset}
use Rattle.mw_model.specs.declared.offsets.Rect.{Rect}
use Rattle.mw_model.specs.Rasters.{Raster, Sight, seen_under}

-- the extremum of the sample at p and of the m samples after it, each `stride` further on than the one before
abbrev pub strided : {A : Type 0} → (A → A → A) → List A → A → ℕ → ℕ → ℕ → A
strided merge row d stride zero p = slice_index_or row p d
strided merge row d stride (suc m) p = merge (slice_index_or row p d) (strided merge row d stride m (p + stride))

-- the extremum of a value at the places from a to a + m
abbrev pub over : {A : Type 0} → (A → A → A) → (ℕ → A) → ℕ → ℕ → A
over merge value a zero = value a
over merge value a (suc m) = merge (value a) (over merge value (a + 1) m)

-- the extremum of a value at `across` by `down` places from column x and row y on
abbrev pub over_box : {A : Type 0} → (A → A → A) → (ℕ → ℕ → A) → ℕ → ℕ → ℕ → ℕ → A
over_box merge value across down x y = over merge (λ j. over merge (λ i. value (x + i) (y + j)) 0 (across - 1)) 0 (down - 1)

-- at each place of the tile the extremum of the neutral cell and the cells that are seen under the element there
pub record IsSlidingExtremum {A : Type 0} (merge : A → A → A) (neutral : A) (sight : Sight A) (element : List Offset) (tile : Rect) (r : Raster A) : Type 0 where
  pub width : r.width ≡ tile.width
  pub height : r.height ≡ tile.height
  pub size : length r.cells ≡ tile.height * tile.width
  pub cells : (x y : ℕ) → x < tile.width → y < tile.height
      → slice_get r.cells (y * tile.width + x) ≡ Some (fold merge neutral (seen_under sight element (tile.x + x) (tile.y + y)))
