-- The cells of a tile, by their places.
use Rattle.std.proofs.Common.{◌≡◌, ℕ, ◌+◌, ◌*◌, ◌<◌, List, length, get_or, slice_get, Some, sym, subst, arith, ◌∙◌}
use Rattle.std.proofs.lemmas.List.{ext_get_or}
use Rattle.std.proofs.lemmas.Option.{get_or_from_slice_get}
use Rattle.mw_model.specs.declared.offsets.Rect.{Rect}
use Rattle.mw_model.specs.declared.shapes.Kind.TheVariants as kind
use Rattle.mw_model.specs.Tasks.{cells_in}
use Rattle.mw_model.proofs.ImagePlaces.{length-rows, sample-drawn, by_places}

pub length-cells_in : (r : Rect) (value : ℕ → ℕ → ℕ) → length (cells_in r value) ≡ r.height * r.width
length-cells_in r value = length-rows (λ i j. value (r.x + i) (r.y + j)) r.width 0 r.height

pub cells_in_at : (r : Rect) (value : ℕ → ℕ → ℕ) (i j : ℕ) → i < r.width → j < r.height → get_or (cells_in r value) (j * r.width + i) 0 ≡ value (r.x + i) (r.y + j)
cells_in_at r value i j p q = sample-drawn kind.Bit r.width r.height 0 (λ m n. value (r.x + m) (r.y + n)) i j p q

-- cells that have these values are those of the tile
pub cells_in_is : (r : Rect) (value : ℕ → ℕ → ℕ) (xs : List ℕ) → length xs ≡ r.height * r.width
    → ((i j : ℕ) → i < r.width → j < r.height → get_or xs (j * r.width + i) 0 ≡ value (r.x + i) (r.y + j)) → cells_in r value ≡ xs
cells_in_is r value xs size each =
    ext_get_or 0 (cells_in r value) xs (length-cells_in r value ∙ sym size)
    (λ k p. by_places (λ k. get_or (cells_in r value) k 0 ≡ get_or xs k 0) r.width r.height (λ i j across down. cells_in_at r value i j across down ∙ sym (each i j across down)) k (omega (arith, length-cells_in r value)))

-- cells that are these values, read as options
pub cells_in_are : (r : Rect) (value : ℕ → ℕ → ℕ) (xs : List ℕ) → length xs ≡ r.height * r.width
    → ((i j : ℕ) → i < r.width → j < r.height → slice_get xs (j * r.width + i) ≡ Some (value (r.x + i) (r.y + j))) → cells_in r value ≡ xs
cells_in_are r value xs size each = cells_in_is r value xs size (λ i j across down. get_or_from_slice_get xs (j * r.width + i) (value (r.x + i) (r.y + j)) 0 (each i j across down))

-- two values that agree in the tile
pub cells_in_same : (r : Rect) (value other : ℕ → ℕ → ℕ) → ((i j : ℕ) → i < r.width → j < r.height → value (r.x + i) (r.y + j) ≡ other (r.x + i) (r.y + j)) → cells_in r value ≡ cells_in r other
cells_in_same r value other each =
    cells_in_is r value (cells_in r other) (length-cells_in r other) (λ i j across down. cells_in_at r other i j across down ∙ sym (each i j across down))

-- what holds of each value holds of all cells
pub cells_in_all : (P : ℕ → Type 0) (r : Rect) (value : ℕ → ℕ → ℕ) → ((i j : ℕ) → i < r.width → j < r.height → P (value (r.x + i) (r.y + j))) → (k : ℕ) → k < r.height * r.width → P (get_or (cells_in r value) k 0)
cells_in_all P r value each k lt =
    by_places (λ k. P (get_or (cells_in r value) k 0)) r.width r.height (λ i j across down. subst P (sym (cells_in_at r value i j across down)) (each i j across down)) k lt
